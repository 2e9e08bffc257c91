-- `unset` meets its contract.
use Rattle.lower_atmosphere.specs.LowerAtmosphere.{unset_nodes}
use mathlib.Core.Path.{refl}
use Rattle.lower_atmosphere.proofs.unset.Goals as goal

pub returns : goal.returns
unfolding unset_nodes
returns c = refl
