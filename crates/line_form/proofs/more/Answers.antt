-- `more` meets its contract: after i digits, 8 less i may still follow.
use mathlib.Core.Path.{◌≡◌, refl, ap, ◌∙◌}
use Prim.Native.Nat.{ℕ, ◌+◌, ◌-◌}
use native.Mathlib.Omega.{arith}
use Rattle.line_form.proofs.Laws.{no_digit, room_less, room_next, room_fits, one_more, all_read}
use Rattle.line_form.proofs.more.Goals as goal

pub loop-i-init : goal.loop-i-init
loop-i-init c =
    let e : c.args.at + 0 ≡ c.args.at = omega arith in
    (omega arith, omega arith, rw e refl)

pub returns-in_default : goal.returns-in_default
returns-in_default c =
    let at = c.loop-i in
    (no_digit _ _ _ c.in_default.ensures.value (8 - at.i) ∙ at.invariant.2, room_less _ (8 - at.i) at.invariant.0, at.invariant.1)

pub overflow_mul-v : goal.overflow_mul-v
overflow_mul-v c = let at = c.loop-i in omega (arith, room_fits at.v (8 - at.i) (omega arith) at.invariant.0)

pub overflow_add-v : goal.overflow_add-v
overflow_add-v c = let at = c.loop-i in omega (arith, room_fits at.v (8 - at.i) (omega arith) at.invariant.0, c.in-Some.ensures.bound.0)

pub loop-i-preserved : goal.loop-i-preserved
loop-i-preserved c =
    let at = c.loop-i in
    let b = c.in-Some.ensures.bound in
    let e : 8 - (at.i + 1) ≡ 8 - at.i - 1 = omega arith in
    let f : c.args.at + (at.i + 1) ≡ c.args.at + at.i + 1 = omega arith in (
      rw e (room_next at.v _ (8 - at.i) (omega arith) (omega (arith, b.0)) at.invariant.0),
      omega (arith, b.1),
      rw (e, f) (one_more _ _ _ _ c.in-Some.ensures.value (8 - at.i) (omega arith) ∙ at.invariant.2),
    )

pub returns : goal.returns
returns c =
    let at = c.loop-i in
    let e : 8 - at.i ≡ 0 = omega arith in
    let f : c.args.at + 8 ≡ c.args.at + at.i = omega arith in (
      ap (λ (k : ℕ). record { size = at.v; next = k }) f ∙ (all_read _ _ _ _ e ∙ at.invariant.2),
      room_less _ (8 - at.i) at.invariant.0,
      omega (arith, at.invariant.1),
    )
