-- `glob7s_season` meets its contract.
use mathlib.Core.Path.{◌∙◌}
use lib.Dec.{lit≤}
use Rattle.season.proofs.Filled.{end_most}
use Rattle.season.proofs.Laws.{first_end, none_needed, without_longitude, with_longitude}
use borrow.Author.Rules.{rules}
use Rattle.season.proofs.glob7s_season.Goals as goal

pub returns-then-end-eq0 : goal.returns-then-end-eq0
returns-then-end-eq0 c = none_needed _ _ _ _ c.glob7s_end-end.result c.glob7s_end-end.ensures c.if-end-eq0.true

pub fill_sets-requires : goal.fill_sets-requires
fill_sets-requires c =
    let n = c.args.n in
    let e = c.glob7s_end-end.ensures in
    (c.requires.0, lit≤ tt, rw (c.first_set-first.ensures, e) (first_end n (λ z. c.if-end-eq0.false (e ∙ z))), rw e (end_most n), c.requires.1, c.requires.2)

pub fill_sets-requires-then-long : goal.fill_sets-requires-then-long
fill_sets-requires-then-long c =
    let n = c.args.n in
    let e = c.glob7s_end-end.ensures in
    (search rules, lit≤ tt, rw (c.first_set-first.ensures, e) (first_end n (λ z. c.if-end-eq0.false (e ∙ z))), rw e (end_most n), c.requires.1, c.requires.2)

pub returns-then-long : goal.returns-then-long
returns-then-long c =
    with_longitude _ _ _ _ c.glob7s_end-end.result c.glob7s_end-end.ensures c.if-end-eq0.false c.first_set-first.result c.first_set-first.ensures _ c.fill_sets.ensures _
    c.fill_sets-then-long.ensures c.if-long.true

pub returns-else-long : goal.returns-else-long
returns-else-long c =
    without_longitude _ _ _ _ c.glob7s_end-end.result c.glob7s_end-end.ensures c.if-end-eq0.false c.first_set-first.result c.first_set-first.ensures _ c.fill_sets.ensures c.if-long.false
