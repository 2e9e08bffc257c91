-- d[5] at the altitudes out of the stored numbers.
use Rattle.std.specs.Prelude.{List, map, Float}
use Rattle.numbers.specs.Arithmetic.{◌‼◌}
use Rattle.stored.specs.Stored.{row_stored}

unfoldable pub densities_stored : Float → Float → List Float → List Float → List Float
densities_stored sw0 sw15 s alts = map (λ (z : Float). row_stored sw0 sw15 s z ‼ 5) alts
