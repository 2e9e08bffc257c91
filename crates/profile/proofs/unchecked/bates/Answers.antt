-- `bates` meets its contract.
use Rattle.profile.specs.Profile.{bates_of}
use Rattle.profile.proofs.unchecked.bates.Goals as goal

pub returns : goal.returns
unfolding bates_of
returns c = simp (← c.exp.ensures)
