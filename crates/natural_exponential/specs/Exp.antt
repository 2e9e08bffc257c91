-- exp as arithmetic on whole numbers.
use Rattle.std.specs.Prelude.{ℕ, ◌+◌, ◌-◌, ◌*◌, ◌/◌, ◌%◌, ◌^◌, true, false, cond, get_or, pos, Float}
use Rattle.std.specs.Float.{nan, inf, fin, binary64}
use Rattle.std.specs.Float.Ieee.{round, lt, is_nan}
use Rattle.exponential_tables.specs.Tables.{coarse, fine}
use Rattle.fixed_point.specs.Float.{over, minus_sign, nought}
use Rattle.fixed_point.specs.Fixed.{high_of, scaled_of, term_of, choose_of, offset_of}

-- 1 / 2 + d / 6 + d ^ 2 / 24 in units of 2 ^ -32, for s = d * 2 ^ 42
abbrev pub exp_tail : ℕ → ℕ
exp_tail s = term_of 2147483648 42 s (term_of 715827883 42 s 178956971)

-- d ^ 2 times that in units of 2 ^ -58
abbrev pub remainder_of : ℕ → ℕ
remainder_of s = s * (s * exp_tail s / 2 ^ 32) / 2 ^ 26

-- e ^ d - 1 in units of 2 ^ -51, for d in units of 2 ^ -58
abbrev pub expm1_of : ℕ → ℕ
expm1_of d = (d + remainder_of (d / 2 ^ 16)) / 2 ^ 7

-- c + c * p for c in units of 2 ^ -58 and p in units of 2 ^ -51
abbrev pub compounded_of : ℕ → ℕ → ℕ
compounded_of c p = c + (p * (c / 2 ^ 38) + p * (c / 2 ^ 16 % 2 ^ 22) / 2 ^ 22) / 2 ^ 13

-- e ^ (t - 1) in units of 2 ^ -58, for t in units of 2 ^ -58, from 0 to 2
abbrev pub kernel_of : ℕ → ℕ
kernel_of t = compounded_of (high_of (get_or coarse (t / 2 ^ 53) 0) (get_or fine (t / 2 ^ 48 % 32) 0)) (expm1_of (t % 2 ^ 48))

-- the nearest float to v / 128 * 2 ^ k / 2 ^ 1138, below 2 ^ -1022 too; k is 1087 for a v in units of 2 ^ -58
abbrev pub assembled_of : ℕ → ℕ → Float
assembled_of v k = round binary64 false (v / 128 * 2 ^ k) (2 ^ 1138)

-- how often log 2 goes into m, in units of 2 ^ -53, or one time less
abbrev pub times_of : ℕ → ℕ
times_of m = m / 2 ^ 32 * 3098164009 / 2 ^ 52

-- m less n times log 2 for a plus sign, n times log 2 less m for a minus sign, and 1 more, in units of 2 ^ -53;
-- the digits of log 2 are 6243314768165359 and 6 / 32 more
abbrev pub gap_of : ℕ → ℕ → ℕ → ℕ
gap_of s m n = 2 ^ 53 + choose_of s m (n * 6243314768165359) - choose_of s (n * 6243314768165359) m

-- the same in units of 2 ^ -58, with the 6 / 32
abbrev pub exp_rest : ℕ → ℕ → ℕ → ℕ
exp_rest s m n = offset_of (1 - s) (gap_of s m n * 32) (n * 6)

-- e ^ m, or e ^ -m, for m in units of 2 ^ -53: 2 ^ n, or 2 ^ -n, is left to the exponent
abbrev pub exp_reduced : ℕ → ℕ → Float
exp_reduced s m = assembled_of (kernel_of (exp_rest s m (times_of m + s))) (offset_of s 1087 (times_of m + s))

-- e ^ m, or e ^ -m, for m in units of 2 ^ -58, from 0 to 1
abbrev pub inside_of : ℕ → ℕ → Float
inside_of s m = assembled_of (kernel_of (offset_of s (2 ^ 58) m)) 1087

-- 709 and -745
abbrev pub most : Float
most = fin false 709 (pos 0)

abbrev pub least : Float
least = fin true 745 (pos 0)

unfoldable pub exp_of : Float → Float
exp_of x =
    cond (is_nan x) nan
    (cond (lt most x) (inf false)
    (cond (lt x least) nought
    (cond (over 1 x) (exp_reduced (minus_sign x) (scaled_of 53 x))
    (inside_of (minus_sign x) (scaled_of 58 x)))))
