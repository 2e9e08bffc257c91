-- `backward` meets its contract.
use mathlib.Core.Path.{◌≡◌, refl, sym, ◌∙◌}
use Prim.Native.Nat.{◌+◌, ◌-◌}
use native.Mathlib.Omega.{arith}
use Rattle.spline.proofs.Steps.{back_more, back_done}
use Rattle.spline.proofs.sweep.backward.Goals as goal

pub loop-k-init : goal.loop-k-init
loop-k-init c = refl

pub loop-k-preserved : goal.loop-k-preserved
loop-k-preserved c =
    let at = c.loop-k in
    let e : at.k - 1 + 1 ≡ at.k = omega arith in
    rw e (sym (back_more at.k at.y2 _ c.loop-k-test.true) ∙ at.invariant)

pub returns : goal.returns
returns c = sym (back_done _ _ _ (omega arith)) ∙ c.loop-k.invariant
