-- `region_in` meets its contract.
use mathlib.Core.Path.{◌∙◌}
use Rattle.stored.proofs.Laws.{unasked, asked}
use Rattle.stored.proofs.region_in.Goals as goal

pub returns-then-not-on : goal.returns-then-not-on
returns-then-not-on c = unasked c.args.on _ _ c.if-not-on.true-raw

pub returns : goal.returns
returns c =
    asked c.args.on _ _ _ c.if-not-on.false-raw (c.put.ensures ∙ c.region_stored-r.ensures)
