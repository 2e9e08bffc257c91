-- `full` meets its contract.
use Rattle.lower_atmosphere.specs.LowerAtmosphere.{full_of}
use mathlib.Core.Path.{refl}
use Rattle.lower_atmosphere.proofs.full.Goals as goal

pub returns : goal.returns
unfolding full_of
returns c = refl
