-- A whole metre as an altitude.
use Rattle.std.specs.Prelude.{ℤ, Float}
use Rattle.std.specs.Float.{binary64}
use Rattle.std.specs.Float.Ieee.{of_int}
use Rattle.numbers.specs.Arithmetic.{◌⊘◌}
use Rattle.numbers.specs.Literals.{1000·0}

-- metres / 1000 km
unfoldable pub kilometres_of_metres : ℤ → Float
kilometres_of_metres metre = of_int binary64 metre ⊘ 1000·0
