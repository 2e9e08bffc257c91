-- d[5] of a station at an altitude in millimetres.
use Rattle.std.specs.Prelude.{ℕ, List, ℤ, replicate, Float}
use Rattle.numbers.specs.Arithmetic.{◌‼◌}
use Rattle.numbers.specs.Literals.{0·0}
use Rattle.station.specs.Station.{altitude_row}
use Rattle.descent_orbits.specs.DescentOrbits.{kilometres_of_millimetres}

unfoldable pub station_density : List ℤ → List Float → ℕ → Float
station_density whole xs a = altitude_row whole xs (kilometres_of_millimetres a) (replicate 11 0·0) ‼ 5
