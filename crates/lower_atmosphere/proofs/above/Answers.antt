-- `above` meets its contract.
use Rattle.lower_atmosphere.specs.LowerAtmosphere.{gtd7_above}
use mathlib.Core.Path.{refl}
use Rattle.lower_atmosphere.proofs.above.Goals as goal

pub returns : goal.returns
unfolding gtd7_above
returns c = refl
