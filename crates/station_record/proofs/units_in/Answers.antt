-- `units_in` meets its contract.
use native.Mathlib.Omega.{arith}
use Rattle.station_record.proofs.units_in.Goals as goal

pub main_in-requires : goal.main_in-requires
main_in-requires c = omega (arith, c.requires)

pub returns : goal.returns
returns c = c.main_in.ensures
