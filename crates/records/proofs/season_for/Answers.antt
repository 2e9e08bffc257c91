-- `season_for` meets its contract.
use mathlib.Core.Path.{◌≡◌, ◌∙◌}
use mir.Syntax.{w32}
use mir.Val.{of_z, to_z}
use Rattle.records.proofs.Laws.{kept_serves, filled_serves}
use borrow.Author.Rules.{rules}
use Rattle.records.proofs.season_for.Goals as goal

pub returns-then-serves : goal.returns-then-serves
returns-then-serves c =
    let doy : to_z w32 (of_z w32 c.args.n.doy) ≡ c.args.n.doy = search rules in
    let same = c.serves.ensures c.if-serves.true in
    kept_serves c.args.w c.args.kept c.args.s.now c.in-Some.k c.args.n.doy c.args.a c.requires c.in-Some.is (same.0 ∙ doy) same.1

pub returns : goal.returns
returns c =
    filled_serves c.args.w c.args.n c.args.a c.args.s.now _ c.day.result c.longitude_in.result c.requires.0
    c.season_into.ensures c.longitude_in.ensures c.day.ensures
