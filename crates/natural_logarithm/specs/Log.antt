-- log as arithmetic on whole numbers.
use Rattle.std.specs.Prelude.{ℕ, ◌+◌, ◌-◌, ◌*◌, ◌/◌, ◌%◌, ◌^◌, true, false, cond, get_or, ltb, Float}
use Rattle.std.specs.Float.{nan, inf, binary64}
use Rattle.std.specs.Float.Ieee.{round, to_bits, neg, mul, lt, eq, is_nan}
use Rattle.fixed_point.specs.Fixed.{term_of}
use Rattle.fixed_point.specs.Float.{unit, nought, tiny, lift}
use Rattle.logarithm_tables.specs.Tables.{reciprocals, logarithms}

-- 1 / 2 + z / 3 + z ^ 2 / 4 + .. + z ^ 5 / 7 in units of 2 ^ -33, for s = z * 2 ^ 38
abbrev pub log_tail : ℕ → ℕ
log_tail s = term_of 4294967296 38 s (term_of 2863311530 38 s (term_of 2147483648 38 s (term_of 1717986918 38 s (term_of 1431655765 38 s 1227133513))))

-- z ^ 2 in units of 2 ^ -45, for z in units of 2 ^ -58: the upper digits s and the lower ones l
abbrev pub log_square : ℕ → ℕ → ℕ
log_square s l = (s * s + s * l / 2 ^ 19) / 2 ^ 31

-- - log (1 - z) in units of 2 ^ -58: z + z ^ 2 (1 / 2 + z / 3 + ..)
abbrev pub log1m_of : ℕ → ℕ
log1m_of z = z + log_square (z / 2 ^ 20) (z % 2 ^ 20) * log_tail (z / 2 ^ 20) / 2 ^ 20

-- the nearest to d / 2 ^ 53, and to (p - n) / 2 ^ 53
abbrev pub fraction_of : ℕ → Float
fraction_of d = round binary64 false d (2 ^ 53)

abbrev pub difference_of : ℕ → ℕ → Float
difference_of p n = cond (ltb p n) (neg (fraction_of (n - p))) (fraction_of (p - n))

-- by how much y times its reciprocal r falls short of 1, for y in units of 2 ^ -52 and r in units of 2 ^ -10; in units of 2 ^ -58
abbrev pub short_of : ℕ → ℕ → ℕ
short_of t r = (2 ^ 62 - (t + 2 ^ 52) * r) / 16

-- 1 and the logarithm of 1 + t / 2 ^ 52, in units of 2 ^ -53
abbrev pub log_within : ℕ → ℕ
log_within t = (get_or logarithms (t / 2 ^ 45) 0 + 2 ^ 58 - log1m_of (short_of t (get_or reciprocals (t / 2 ^ 45) 0))) / 32

-- the logarithm of (1 + t / 2 ^ 52) * 2 ^ (e - 1023 - k), by e times log 2 and 1023 + k times log 2; log 2 is 6243314768165359 / 2 ^ 53
abbrev pub log_digits : ℕ → ℕ → ℕ → Float
log_digits k e t = difference_of (e * 6243314768165359 + log_within t) ((1023 + k) * 6243314768165359 + 2 ^ 53)

-- the logarithm of x / 2 ^ k by the bits of x
abbrev pub bits_of : ℕ → Float → Float
bits_of k x = log_digits k (to_bits binary64 x % 2 ^ 63 / 2 ^ 52) (to_bits binary64 x % 2 ^ 63 % 2 ^ 52)

-- NaN and what is below 0 give NaN; only the zeros give -infinity; a number below 2 ^ -1022 is taken 2 ^ 54 times as large, exactly
unfoldable pub log_of : Float → Float
log_of x =
    cond (is_nan x) nan
    (cond (lt x nought) nan
    (cond (eq x nought) (inf true)
    (cond (eq x (inf false)) x
    (cond (eq x unit) nought
    (cond (lt x tiny) (bits_of 54 (mul binary64 x lift))
    (bits_of 0 x))))))
