-- `first_five` meets its contract.
use mathlib.Core.Path.{refl}
use Rattle.layers.specs.Layers.{first_five}
use Rattle.layers.proofs.first_five.Goals as goal

pub returns : goal.returns
unfolding first_five
returns c = refl
