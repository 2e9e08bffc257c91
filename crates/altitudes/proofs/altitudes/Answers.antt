-- `altitudes` meets its contract: the altitudes below k have passed.
use Rattle.std.specs.Prelude.{Err}
use mathlib.Core.Path.{refl, sym, ◌∙◌, ap}
use Prim.Native.Nat.{◌-◌}
use native.Mathlib.Omega.{arith}
use borrow.Author.Rules.{rules}
use Rattle.altitudes.specs.Within.{none_refused}
use Rattle.altitudes.proofs.Laws.{unfit_here, outside_here, passed_here, all_passed}
use Rattle.altitudes.proofs.altitudes.Goals as goal

pub returns-then-all_within : goal.returns-then-all_within
returns-then-all_within c =
    sym (none_refused 0 _ (sym c.all_within.ensures ∙ c.if-all_within.true))

pub loop-k-init : goal.loop-k-init
loop-k-init c = refl

pub returns-then-not-finite : goal.returns-then-not-finite
returns-then-not-finite c =
    let at = c.loop-k in
    ap Err c.at.ensures ∙ (unfit_here _ at.k (search rules) _ c.finite.ensures c.if-not-finite.true-raw ∙ at.invariant)

pub returns-then-not-within : goal.returns-then-not-within
returns-then-not-within c =
    let at = c.loop-k in
    ap Err c.at-then-not-within.ensures ∙ (outside_here _ at.k (search rules) _ _
    c.finite.ensures c.if-not-finite.false-raw c.within.ensures c.if-not-within.true-raw ∙ at.invariant)

pub loop-k-preserved : goal.loop-k-preserved
loop-k-preserved c =
    let at = c.loop-k in
    passed_here _ at.k (search rules) _ _
    c.finite.ensures c.if-not-finite.false-raw c.within.ensures c.if-not-within.false-raw ∙ at.invariant

pub returns : goal.returns
returns c =
    let at = c.loop-k in
    all_passed _ at.k (omega arith) ∙ at.invariant
