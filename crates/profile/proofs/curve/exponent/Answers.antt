-- `exponent` meets its contract.
use Rattle.profile.specs.Curve.{exponent_of}
use Rattle.profile.proofs.curve.exponent.Goals as goal

pub returns : goal.returns
unfolding exponent_of
returns c = simp (← c.integral-yi.ensures, ← c.pow-q.ensures)
