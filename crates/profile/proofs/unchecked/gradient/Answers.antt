-- `gradient` meets its contract.
use Rattle.profile.specs.Profile.{gradient_of}
use Rattle.profile.proofs.unchecked.gradient.Goals as goal

pub returns : goal.returns
unfolding gradient_of
returns c = simp (← c.pow.ensures)
