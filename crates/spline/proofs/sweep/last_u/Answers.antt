-- `last_u` meets its contract.
use Rattle.spline.specs.Sweep.{last_uof}
use Rattle.spline.proofs.sweep.last_u.Goals as goal

pub returns-then-ypn : goal.returns-then-ypn
unfolding last_uof
returns-then-ypn c = simp c.if-ypn.true

pub returns : goal.returns
unfolding last_uof
returns c = simp c.if-ypn.false
