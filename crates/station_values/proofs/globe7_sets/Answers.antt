-- `globe7_sets` meets its contract.
use mathlib.Core.Path.{refl}
use Rattle.station_values.specs.StationValues.{globe7_sets}
use Rattle.station_values.proofs.globe7_sets.Goals as goal

pub returns : goal.returns
unfolding globe7_sets
returns c = refl
