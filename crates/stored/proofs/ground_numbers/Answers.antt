-- `ground_numbers` meets its contract.
use Rattle.stored.specs.Stored.{ground_numbers}
use mathlib.Core.Path.{refl}
use Rattle.stored.proofs.ground_numbers.Goals as goal

pub returns : goal.returns
unfolding ground_numbers
returns c = refl
