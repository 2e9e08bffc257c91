-- `numbers` meets its contract: from the j-th on the others may still follow.
use mathlib.Core.Path.{◌≡◌, refl, ◌∙◌}
use Prim.Native.Nat.{◌+◌, ◌-◌}
use native.Mathlib.Omega.{arith}
use borrow.Author.Tests.{not-false}
use Rattle.line_form.proofs.Laws.{here_inside, stopped_next, no_space, no_number, one_number_lem, no_more, next_is}
use Rattle.line_form.proofs.numbers.Goals as goal

pub loop-j-init : goal.loop-j-init
loop-j-init c =
    let e : c.args.i + c.args.m - c.args.i ≡ c.args.m = omega arith in
    (c.requires.next_in_bounds, rw e refl)

pub returns-then-not-here : goal.returns-then-not-here
returns-then-not-here c =
    let at = c.loop-j in
    (c.stopped.ensures ∙ (no_space _ _ _ _ c.here.ensures _ (omega arith) c.if-not-here.true-raw ∙ at.invariant.1), stopped_next _ _ _ c.stopped.ensures at.invariant.0)

pub number-requires : goal.number-requires
number-requires c =
    let h = here_inside _ _ _ _ c.here.ensures (not-false _ c.if-not-here.false-raw) in
    omega arith

pub returns-in_default : goal.returns-in_default
returns-in_default c =
    let at = c.loop-j in
    (c.stopped-in_default.ensures ∙ (no_number _ _ _ _ c.here.ensures _ (omega arith) c.if-not-here.false-raw c.in_default.ensures.value ∙ at.invariant.1), stopped_next _ _ _ c.stopped-in_default.ensures at.invariant.0)

pub loop-j-preserved : goal.loop-j-preserved
loop-j-preserved c =
    let at = c.loop-j in
    let n = c.args.i + c.args.m in
    let e : n - (at.j + 1) ≡ n - at.j - 1 = omega arith in (
      next_is _ _ _ _ c.with_number-q.ensures c.in-Some.ensures.bound,
      rw e (one_number_lem _ _ _ _ c.here.ensures _ (omega arith) c.if-not-here.false-raw _ c.in-Some.ensures.value _ c.with_number-q.ensures ∙ at.invariant.1),
    )

pub returns : goal.returns
returns c =
    let at = c.loop-j in
    (no_more _ _ _ _ (omega arith) ∙ at.invariant.1, at.invariant.0)
