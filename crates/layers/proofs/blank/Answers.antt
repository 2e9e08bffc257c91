-- `blank` meets its contract.
use mathlib.Core.Path.{refl}
use Rattle.layers.specs.Layers.{blank_of}
use Rattle.layers.proofs.blank.Goals as goal

pub returns : goal.returns
unfolding blank_of
returns c = refl
