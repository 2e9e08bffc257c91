-- `same_expansions` meets its contract: what is left of the row, from entry i, decides.
use mathlib.Core.Path.{◌≡◌, refl, sym, ◌∙◌}
use Prim.Native.Nat.{◌-◌}
use borrow.Author.Rules.{rules}
use borrow.Author.Tests.{not-true, not-false}
use Rattle.switch_rows.specs.Rows.{same_from, same_expansions}
use Rattle.switch_rows.proofs.Laws.{one_more, not_one}
use Rattle.switch_rows.proofs.same_expansions.Goals as goal

pub loop-i-init : goal.loop-i-init
unfolding same_expansions
loop-i-init c = refl

pub returns-then-not-same_at : goal.returns-then-not-same_at
returns-then-not-same_at c =
    let at = c.loop-i in
    let t = sym c.same_at.ensures ∙ not-true _ c.if-not-same_at.true-raw in
    not_one _ _ at.i (search rules) t at.invariant

pub loop-i-preserved : goal.loop-i-preserved
loop-i-preserved c =
    let at = c.loop-i in
    let t = sym c.same_at.ensures ∙ not-false _ c.if-not-same_at.false-raw in
    one_more _ _ at.i (search rules) t at.invariant

pub returns : goal.returns
unfolding same_from
returns c =
    let at = c.loop-i in
    let none : 15 - at.i ≡ 0 = search rules in
    rw none at at.invariant
