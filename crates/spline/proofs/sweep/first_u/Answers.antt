-- `first_u` meets its contract.
use Rattle.spline.specs.Sweep.{first_uof}
use Rattle.spline.proofs.sweep.first_u.Goals as goal

pub returns-then-yp1 : goal.returns-then-yp1
unfolding first_uof
returns-then-yp1 c = simp c.if-yp1.true

pub returns : goal.returns
unfolding first_uof
returns c = simp c.if-yp1.false
