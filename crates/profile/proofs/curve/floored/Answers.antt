-- `floored` meets its contract.
use Rattle.profile.specs.Curve.{floored_of}
use Rattle.profile.proofs.curve.floored.Goals as goal

pub returns : goal.returns
unfolding floored_of
returns c = simp (← c.layer.ensures, ← c.pick-z.ensures)
