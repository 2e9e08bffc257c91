-- `record_numbers` meets its contract.
use Rattle.station_record.specs.Record.{record_numbers}
use mathlib.Core.Path.{refl}
use Rattle.station_record.proofs.record_numbers.Goals as goal

pub returns : goal.returns
unfolding record_numbers
returns c = refl
