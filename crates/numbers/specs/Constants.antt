-- The constants of atmosphere.rs.
use Rattle.std.specs.Prelude.{Float}
use Rattle.numbers.specs.Literals.{1·74533E-2, 1·72142E-2, 0·2618, 7·2722E-5, 831·4}

-- DGTR: radians in a degree
abbrev pub dgtr : Float
dgtr = 1·74533E-2

-- DR: radians in a day, the year a full turn
abbrev pub dr : Float
dr = 1·72142E-2

-- HR: radians in an hour, the day a full turn
abbrev pub hr : Float
hr = 0·2618

-- SR: radians in a second, the day a full turn
abbrev pub sr : Float
sr = 7·2722E-5

-- RGAS: the gas constant
abbrev pub rgas : Float
rgas = 831·4
