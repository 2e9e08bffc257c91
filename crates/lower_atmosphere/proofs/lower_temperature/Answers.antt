-- `lower_temperature` meets its contract.
use Rattle.lower_atmosphere.specs.LowerAtmosphere.{lower_temperature}
use Rattle.lower_atmosphere.proofs.lower_temperature.Goals as goal

pub returns : goal.returns
unfolding lower_temperature
returns c = simp (← c.densm54.ensures)
