-- `expansion_values_in` meets its contract.
use mathlib.Core.Path.{refl}
use Rattle.station_values.specs.StationValues.{expansion_values_in}
use Rattle.station_values.proofs.expansion_values_in.Goals as goal

pub returns : goal.returns
unfolding expansion_values_in
returns c = refl
