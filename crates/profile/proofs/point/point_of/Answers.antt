-- `point_of` meets its contract.
use Rattle.profile.specs.Point.{point_of}
use Rattle.profile.proofs.point.point_of.Goals as goal

pub returns-then-z-za : goal.returns-then-z-za
unfolding point_of
returns-then-z-za c = simp (← c.on_curve.ensures, ← c.floored-l.ensures, ← c.gradient-dta.ensures, ← c.bates-tt.ensures, ← c.zeta-zg2.ensures, ← c.pick-zz.ensures) (simp (c.if-z-za.true))

pub returns-then-z-za-2 : goal.returns-then-z-za-2
unfolding point_of
returns-then-z-za-2 c = simp (← c.off_curve.ensures, ← c.bates-tt.ensures, ← c.zeta-zg2.ensures, ← c.pick-zz.ensures) (simp (c.if-z-za-2.true, c.if-z-za.false))

pub returns : goal.returns
unfolding point_of
returns c = simp (← c.on_curve-2.ensures, ← c.unset-l.ensures, ← c.bates-tt.ensures, ← c.zeta-zg2.ensures, ← c.pick-zz.ensures) (simp (c.if-z-za-2.false, c.if-z-za.false))
