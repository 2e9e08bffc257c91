-- The nearest root by squares compared: r is the root of a * 2 ^ 52 where 4 * a * 2 ^ 52 lies between the squares of 2 r - 1 and 2 r + 1.
-- Both squares are odd, so that neither end is met and no tie arises.
use Rattle.std.specs.Prelude.{ℕ, zero, suc, ◌+◌, ◌-◌, ◌*◌, ◌/◌, ◌%◌, ◌^◌, ◌<◌, ◌≤◌, false, cond, ltb, Float}
use Rattle.std.specs.Float.{nan, inf, binary64}
use Rattle.std.specs.Float.Ieee.{of_bits, to_bits, mul, lt, eq, is_nan}
use Rattle.fixed_point.specs.Float.{nought, tiny, lift}

pub record Over (a r : ℕ) : Type 0 where
  pub over : a * 2 ^ 54 ≤ (2 * r + 1) * (2 * r + 1)

pub record Nearest (a r : ℕ) : Type 0 where
  pub over : a * 2 ^ 54 ≤ (2 * r + 1) * (2 * r + 1)
  pub under : (2 * r - 1) * (2 * r - 1) < a * 2 ^ 54
  pub small : (1 ≤ r) × (r < 2 ^ 53)

-- The same r by its binary digits, from the highest: the largest number below r + 2 ^ n whose half step down has a square below a * 2 ^ 54
abbrev pub root_digits : ℕ → ℕ → ℕ → ℕ
root_digits a zero r = r
root_digits a (suc n) r = root_digits a n (cond (ltb ((2 * (r + 2 ^ n) - 1) * (2 * (r + 2 ^ n) - 1)) (a * 2 ^ 54)) (r + 2 ^ n) r)

unfoldable pub nearest_of : ℕ → ℕ
nearest_of a = root_digits a 53 0

-- For a field e of the exponent and the digits t, x is a * 2 ^ (an even number): the digits with the leading one, once or twice
abbrev pub radicand_of : ℕ → ℕ → ℕ
radicand_of e t = (t + 2 ^ 52) * (2 - e % 2)

-- the root of x over 2 ^ k by its bits: half the exponent, and the nearest root of the digits
unfoldable pub root_of : Float → ℕ → Float
root_of x k =
    let b = to_bits binary64 x % 2 ^ 63 in
    of_bits binary64 (((b / 2 ^ 52 + 1021) / 2 - k) * 2 ^ 52 + nearest_of (radicand_of (b / 2 ^ 52) (b % 2 ^ 52)))

-- NaN stays, and so do both zeros and +infinity; a number below 2 ^ -1022 is taken 2 ^ 54 times as large
unfoldable pub sqrt_of : Float → Float
sqrt_of x =
    cond (is_nan x) nan
    (cond (lt x nought) nan
    (cond (eq x nought) x
    (cond (eq x (inf false)) x
    (cond (lt x tiny) (root_of (mul binary64 x lift) 27)
    (root_of x 0)))))
