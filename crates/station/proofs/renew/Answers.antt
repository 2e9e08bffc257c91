-- `renew` meets its contract.
use Rattle.std.proofs.Common.{◌∙◌}
use Rattle.station.proofs.Laws.{renewed, made_anew, filled_all}
use Rattle.station.proofs.renew.Goals as goal

pub returns-then-same_expansions : goal.returns-then-same_expansions
returns-then-same_expansions c =
    let same = c.same_expansions in
    renewed c.args.old c.args.w c.args.n c.args.numbers.now _ same.result same.ensures c.if-same_expansions.true c.refill.ensures

pub returns : goal.returns
returns c =
    let same = c.same_expansions in
    made_anew c.args.old c.args.w c.args.n c.args.numbers.now _ same.result same.ensures c.if-same_expansions.false
    (c.fill.ensures ∙ rw (c.need_of.ensures, c.all_parts.ensures) (filled_all _ _ _ c.requires))
