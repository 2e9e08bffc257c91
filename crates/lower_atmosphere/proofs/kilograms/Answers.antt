-- `kilograms` meets its contract.
use Rattle.lower_atmosphere.specs.LowerAtmosphere.{kilograms_of}
use Rattle.lower_atmosphere.proofs.kilograms.Goals as goal

pub returns : goal.returns
unfolding kilograms_of
returns c = simp (← c.pick.ensures)
