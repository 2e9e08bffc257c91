-- Whole numbers made from floats, and products of them, as contracts say them.
use Rattle.std.specs.Prelude.{ℕ, ◌+◌, ◌-◌, ◌*◌, ◌/◌, ◌^◌, cond, eqb, ltb, Float}
use Rattle.std.specs.Float.{nan, inf, fin}
use Rattle.std.specs.Float.Ieee.{up, down}

-- the upper half of a product of 128 bits
abbrev pub high_of : ℕ → ℕ → ℕ
high_of a b = a * b / 2 ^ 64

-- the whole part of |x| * 2 ^ k
abbrev pub scaled_of : ℕ → Float → ℕ
scaled_of k nan = 0
scaled_of k (inf s) = 0
scaled_of k (fin s m e) = m * up e * 2 ^ k / down e

-- one more term of a nested series: a + s * h, with s in units of 2 ^ -w
abbrev pub term_of : ℕ → ℕ → ℕ → ℕ → ℕ
term_of a w s h = a + s * h / 2 ^ w

-- x where h is 0, and y elsewhere
abbrev pub choose_of : ℕ → ℕ → ℕ → ℕ
choose_of h x y = cond (eqb h 0) x y

-- u + p where h is 0, and u - p elsewhere
abbrev pub offset_of : ℕ → ℕ → ℕ → ℕ
offset_of h u p = choose_of h (u + p) (u - p)

-- |p - n|
abbrev pub apart_of : ℕ → ℕ → ℕ
apart_of p n = cond (ltb p n) (n - p) (p - n)
