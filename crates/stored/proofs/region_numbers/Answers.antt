-- `region_numbers` meets its contract.
use Rattle.stored.specs.Stored.{region_numbers}
use mathlib.Core.Path.{refl}
use Rattle.stored.proofs.region_numbers.Goals as goal

pub returns : goal.returns
unfolding region_numbers
returns c = refl
