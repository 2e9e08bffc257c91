-- `mesosphere` meets its contract.
use Rattle.lower_atmosphere.specs.LowerAtmosphere.{mesosphere_of}
use mathlib.Core.Path.{refl}
use Rattle.lower_atmosphere.proofs.mesosphere.Goals as goal

pub returns : goal.returns
unfolding mesosphere_of
returns c = refl
