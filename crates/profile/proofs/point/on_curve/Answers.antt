-- `on_curve` meets its contract.
use Rattle.profile.specs.Point.{on_curve}
use Rattle.profile.proofs.point.on_curve.Goals as goal

pub returns : goal.returns
unfolding on_curve
returns c = simp (← c.integral-yi.ensures, ← c.pow-q.ensures)
