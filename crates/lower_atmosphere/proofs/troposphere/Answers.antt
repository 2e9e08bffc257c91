-- `troposphere` meets its contract.
use Rattle.lower_atmosphere.specs.LowerAtmosphere.{troposphere_of}
use mathlib.Core.Path.{refl}
use Rattle.lower_atmosphere.proofs.troposphere.Goals as goal

pub returns : goal.returns
unfolding troposphere_of
returns c = refl
