-- `forward` meets its contract.
use mathlib.Core.Path.{refl, sym, ◌∙◌}
use native.Mathlib.Omega.{arith}
use Rattle.spline.specs.Sweep.{forward_of}
use Rattle.spline.proofs.Steps.{sweep_more, sweep_done}
use Rattle.spline.proofs.sweep.forward.Goals as goal

pub loop-i-init : goal.loop-i-init
unfolding forward_of
loop-i-init c = refl

pub loop-i-preserved : goal.loop-i-preserved
loop-i-preserved c =
    let at = c.loop-i in
    let A = c.args in
    rw (c.step_u-b.ensures, c.step_y-a.ensures) (sym (sweep_more A.x.now A.y.now A.n at.i at.y2 at.u (omega arith)) ∙ at.invariant)

pub returns : goal.returns
returns c = sym (sweep_done _ _ _ _ _ _ (omega arith)) ∙ c.loop-i.invariant
