-- sin and cos as arithmetic on whole numbers.
use Rattle.std.specs.Prelude.{ℕ, zero, suc, ◌+◌, ◌-◌, ◌*◌, ◌/◌, ◌%◌, ◌^◌, Bool, false, cond, get_or, leb, ltb, eqb, Float}
use Rattle.std.specs.Float.{nan, binary64}
use Rattle.std.specs.Float.Ieee.{round}
use Rattle.circular_tables.specs.Tables.{sines, cosines}
use Rattle.fixed_point.specs.Fixed.{scaled_of, apart_of}
use Rattle.fixed_point.specs.Float.{over, minus_sign, nought}

-- d ^ 2 in units of 2 ^ -48, for s = d * 2 ^ 40
abbrev pub circular_square : ℕ → ℕ
circular_square s = s * s / 2 ^ 32

-- d ^ 3 / 6 in units of 2 ^ -58
abbrev pub cube_of : ℕ → ℕ
cube_of s = s * (715827883 * circular_square s / 2 ^ 32) / 2 ^ 30

-- d ^ 4 / 24 in units of 2 ^ -49, for q = d ^ 2 * 2 ^ 48
abbrev pub fourth_of : ℕ → ℕ
fourth_of q = q * (178956971 * q / 2 ^ 40) / 2 ^ 39

-- sin d in units of 2 ^ -50, for d in units of 2 ^ -58: d - d ^ 3 / 6
abbrev pub sine_cubic : ℕ → ℕ
sine_cubic d = (d - cube_of (d / 2 ^ 18)) / 2 ^ 8

-- 1 - cos d in units of 2 ^ -49: d ^ 2 / 2 - d ^ 4 / 24
abbrev pub versine_of : ℕ → ℕ
versine_of d = circular_square (d / 2 ^ 18) - fourth_of (circular_square (d / 2 ^ 18))

-- a * p in units of 2 ^ -58, for p in units of 2 ^ -50, and a * e for e in units of 2 ^ -49
abbrev pub scaling_of : ℕ → ℕ → ℕ
scaling_of a p = (p * (a / 2 ^ 38) + p * (a / 2 ^ 16 % 2 ^ 22) / 2 ^ 22) / 2 ^ 12

abbrev pub decrement_of : ℕ → ℕ → ℕ
decrement_of a e = e * (a / 2 ^ 27) / 2 ^ 22

-- sin r and cos r in units of 2 ^ -58, for r in units of 2 ^ -58, from 0 to 1
abbrev pub sine_from : ℕ → ℕ → ℕ → ℕ
sine_from a b d = a + scaling_of b (sine_cubic d) - decrement_of a (versine_of d)

abbrev pub cosine_from : ℕ → ℕ → ℕ → ℕ
cosine_from a b d = b - scaling_of a (sine_cubic d) - decrement_of b (versine_of d)

abbrev pub sine_of : ℕ → ℕ
sine_of r = sine_from (get_or sines (r / 2 ^ 50) 0) (get_or cosines (r / 2 ^ 50) 0) (r % 2 ^ 50)

abbrev pub cosine_of : ℕ → ℕ
cosine_of r = cosine_from (get_or sines (r / 2 ^ 50) 0) (get_or cosines (r / 2 ^ 50) 0) (r % 2 ^ 50)

-- the one for a parity of 0, the other for a parity of 1
abbrev pub circular_part : ℕ → ℕ → ℕ
circular_part h r = cond (eqb h 0) (sine_of r) (cosine_of r)

-- the sign of q with the sign s: a zero has none
abbrev pub sign_of : Bool → ℕ → Bool
sign_of s zero = false
sign_of s (suc q) = s

-- q / 2 ^ 51, below zero in the third and fourth quarters; a zero has no sign
abbrev pub circular_signed : ℕ → ℕ → Float
circular_signed n q = cond (eqb q 0) nought (round binary64 (leb 2 (n % 4)) q (2 ^ 51))

-- the quarter that decides the sign: a sine below 0 has a half turn more
abbrev pub quarter_of : ℕ → ℕ → ℕ
quarter_of n t = cond (ltb t (2 ^ 58)) (cond (eqb (n % 2) 0) (n + 2) n) n

-- the sine of n quarter turns and t - 1, for t in units of 2 ^ -58, from 0 to 2
abbrev pub sinusoid_of : ℕ → ℕ → Float
sinusoid_of n t = circular_signed (quarter_of n t) (circular_part (n % 2) (apart_of t (2 ^ 58)) / 128)

-- how many quarter turns are nearest to m, in units of 2 ^ -46
abbrev pub quarters_of : ℕ → ℕ
quarters_of m = (m / 2 ^ 31 * 2734261102 + 2 ^ 46) / 2 ^ 47

-- m less n quarter turns, and 1 more, in units of 2 ^ -58: the digits of a quarter turn are 110534964875444 and 1629119075 / 2 ^ 32 more
abbrev pub circular_left : ℕ → ℕ → ℕ
circular_left m n = (m + 2 ^ 46 - n * 110534964875444) * 4096 - n * 1629119075 / 2 ^ 20

-- the sine of k quarter turns and m
abbrev pub circular_reduced : ℕ → ℕ → Float
circular_reduced m k = sinusoid_of (quarters_of m + k) (circular_left m (quarters_of m))

-- the sine of k quarter turns and |x|
abbrev pub circular_turned : Float → ℕ → Float
circular_turned x k = cond (over 1 x) (circular_reduced (scaled_of 46 x) k) (sinusoid_of k (2 ^ 58 + scaled_of 58 x))

-- NaN for a NaN and beyond 65,536; a half turn more for a minus sign
unfoldable pub sin_of : Float → Float
sin_of x = cond (over 65536 x) nan (circular_turned x (minus_sign x * 2))

unfoldable pub cos_of : Float → Float
cos_of x = cond (over 65536 x) nan (circular_turned x 1)
