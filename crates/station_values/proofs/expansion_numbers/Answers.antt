-- `expansion_numbers` meets its contract.
use mathlib.Core.Path.{refl}
use Rattle.station_values.specs.StationValues.{expansion_numbers}
use Rattle.station_values.proofs.expansion_numbers.Goals as goal

pub returns : goal.returns
unfolding expansion_numbers
returns c = refl
