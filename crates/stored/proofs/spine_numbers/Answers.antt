-- `spine_numbers` meets its contract.
use Rattle.stored.specs.Stored.{spine_numbers}
use mathlib.Core.Path.{refl}
use Rattle.stored.proofs.spine_numbers.Goals as goal

pub returns : goal.returns
unfolding spine_numbers
returns c = refl
