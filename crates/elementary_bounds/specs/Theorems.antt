-- What holds of the elementary functions, each statement with its meaning in words. `proofs/Proved.antt` proves each: `ExpNear-is : ExpNear`, and so on.
-- A finite float is ±n / d, with the numerator n and the denominator d below; `HasValue y s a c` says that y is a / c with the sign s, exactly.
use Rattle.std.specs.Prelude.{ℕ, ◌+◌, ◌-◌, ◌*◌, ◌/◌, ◌^◌, ◌≤◌, ◌<◌, ◌≡◌, Bool, true, false, T, pos, negsuc, Float}
use Rattle.std.specs.Float.{nan, inf, fin, binary64}
use Rattle.std.specs.Float.Ieee.{up, down, round, fits, of_int, mul, lt, eq, is_nan}
use Rattle.std.specs.Float.Ieee.Exact.{HasValue}
use Rattle.fixed_point.specs.Fixed.{scaled_of, offset_of}
use Rattle.fixed_point.specs.Float.{Within, over, minus_sign, unit, nought, tiny}
use Rattle.natural_exponential.specs.Exp.{kernel_of, times_of, exp_rest, exp_of, most, least}
use Rattle.natural_logarithm.specs.Log.{log_digits, log_of}
use Rattle.circular_functions.specs.Trig.{sign_of, sin_of, cos_of}
use Rattle.square_root.specs.Root.{sqrt_of}
use Rattle.elementary.specs.Pow.{half, whole_exponent, power_product, pow_of}
use Rattle.elementary_bounds.specs.Series.{Near, NearLog, exp_adding, exp_taking, sin_adding, sin_taking, cos_adding, cos_taking}

abbrev pub numerator : Float → ℕ
numerator nan = 0
numerator (inf s) = 0
numerator (fin s m e) = m * up e

abbrev pub denominator : Float → ℕ
denominator nan = 1
denominator (inf s) = 1
denominator (fin s m e) = down e

abbrev pub negative : Float → Bool
negative nan = false
negative (inf s) = s
negative (fin s m e) = s

-- -708
abbrev pub faint : Float
faint = fin true 177 (pos 2)

-- y is (p - n) / c exactly
abbrev pub HasDifference : Float → ℕ → ℕ → ℕ → Type 0
HasDifference nan p n c = ⊥
HasDifference (inf s) p n c = ⊥
HasDifference (fin false m e) p n c = m * up e * c + n * down e ≡ p * down e
HasDifference (fin true m e) p n c = m * up e * c + p * down e ≡ n * down e

-- ---- the series

-- From -1 to 1, exp x is q / 2 ^ 51 for a q within 128, which is 2 ^ -44, of the sum of x ^ k / k! for k from 0 to 20.
-- The series is taken at the exact x; below 0 its odd terms are taken off.
abbrev pub ExpNear : Type 0
ExpNear = (x : Float) → Within x 1 → (q : ℕ) × HasValue (exp_of x) false q (2 ^ 51) × Near (exp_adding (negative x)) (exp_taking (negative x)) (numerator x) (denominator x) q

-- From -1 to 1, sin x is q / 2 ^ 51 with the sign of x, for a q within 2 ^ -44 of its series through the 20th power at |x|.
-- A zero result has no sign.
abbrev pub SinNear : Type 0
SinNear = (x : Float) → Within x 1 → (q : ℕ) × HasValue (sin_of x) (sign_of (negative x) q) q (2 ^ 51) × Near sin_adding sin_taking (numerator x) (denominator x) q

-- From -1 to 1, cos x is q / 2 ^ 51 for a q within 2 ^ -44 of its series through the 20th power at |x|.
-- It is never negative there.
abbrev pub CosNear : Type 0
CosNear = (x : Float) → Within x 1 → (q : ℕ) × HasValue (cos_of x) false q (2 ^ 51) × Near cos_adding cos_taking (numerator x) (denominator x) q

-- From 1/2 to 2, log x is (p - n) / 2 ^ 53, within 2 ^ -44 of twice the sum of z ^ k / k, k odd from 1 to 39, z = (x - 1) / (x + 1).
-- For x below 1 the series at -z is what n - p is near.
abbrev pub LogNear : Type 0
LogNear =
    (x : Float) → T (fits binary64 x) → negative x ≡ false → denominator x ≤ 2 * numerator x → numerator x ≤ 2 * denominator x
    → (p : ℕ) × (n : ℕ) × HasDifference (log_of x) p n (2 ^ 53)
    × (denominator x ≤ numerator x → NearLog p n (numerator x - denominator x) (numerator x + denominator x))
    × (numerator x ≤ denominator x → NearLog n p (denominator x - numerator x) (numerator x + denominator x))

-- The fraction that exp rounds below -1 is fading_of x / 2 ^ 1138: the kernel's number over 128, and n halvings,
-- where n is how often log 2 goes into |x|, or one time less, and one more.
abbrev pub fading_of : Float → ℕ
fading_of x = kernel_of (exp_rest 1 (scaled_of 53 x) (times_of (scaled_of 53 x) + 1)) / 128 * 2 ^ (1087 - (times_of (scaled_of 53 x) + 1))

-- From -745 up to -708, both included, exp x is r / 2 ^ 1074 exactly, for an r within 1 of fading_of x / 2 ^ 64: it lies within 2 ^ -1074 of the fraction.
-- That is a bound of rounding; how near the fraction is to e ^ x is not said here. Below 2 ^ -1022 exp may be there, and nowhere else.
abbrev pub ExpTail : Type 0
ExpTail =
    (x : Float) → is_nan x ≡ false → lt x least ≡ false → lt faint x ≡ false
    → (r : ℕ) × HasValue (exp_of x) false r (2 ^ 1074) × (r * 2 ^ 64 ≤ fading_of x + 2 ^ 64) × (fading_of x ≤ r * 2 ^ 64 + 2 ^ 64)

-- From -708 to 709, exp x is the nearest float to the same number over 2 ^ 1074, with an exponent from 1 on.
abbrev pub ExpKept : Type 0
ExpKept =
    (x : Float) → is_nan x ≡ false → lt most x ≡ false → lt x faint ≡ false
    → (over 1 x ≡ true → exp_of x ≡ round binary64 false (kernel_of (exp_rest (minus_sign x) (scaled_of 53 x) (times_of (scaled_of 53 x) + minus_sign x)) / 128 * 2 ^ offset_of (minus_sign x) 1023 (times_of (scaled_of 53 x) + minus_sign x)) (2 ^ 1074))
    × (over 1 x ≡ false → exp_of x ≡ round binary64 false (kernel_of (offset_of (minus_sign x) (2 ^ 58) (scaled_of 58 x)) / 128 * 2 ^ 1023) (2 ^ 1074))

-- Above 0 and below 2 ^ -1022, x is (2 ^ 52 + t) * 2 ^ (e - 1) / 2 ^ 1128 exactly, and its logarithm is made of that e and that t as any other's,
-- with 54 times log 2 more taken off: the scaling by 2 ^ 54 loses nothing.
abbrev pub LogTail : Type 0
LogTail =
    (x : Float) → T (fits binary64 x) → lt nought x ≡ true → lt x tiny ≡ true
    → (e : ℕ) × (t : ℕ) × (1 ≤ e) × (t < 2 ^ 52) × ((2 ^ 52 + t) * 2 ^ (e - 1) * denominator x ≡ numerator x * 2 ^ 54 * 2 ^ 1074) × (log_of x ≡ log_digits 54 e t)

-- log gives -infinity for the two zeros, which are the floats that equal 0, and for nothing else.
-- The other way round as well.
abbrev pub LogMinus : Type 0
LogMinus = (x : Float) → T (fits binary64 x) → (log_of x ≡ inf true → eq x nought ≡ true) × (eq x nought ≡ true → log_of x ≡ inf true)

-- ---- sizes

-- Every number above 0 has its logarithm, at most 1024 in size.
-- So only the zeros give -infinity (`LogEnds`), and only +infinity gives +infinity.
abbrev pub LogSize : Type 0
LogSize = (x : Float) → T (fits binary64 x) → lt nought x ≡ true → eq x (inf false) ≡ false → Within (log_of x) 1024

-- exp is above 0 from -745 on: it gives 0 only below (`ExpEnds`).
-- +infinity is included.
abbrev pub ExpSome : Type 0
ExpSome = (x : Float) → is_nan x ≡ false → lt x least ≡ false → lt nought (exp_of x) ≡ true

-- exp of anything but NaN is neither NaN nor negative, and never -0.
-- Both infinities are included.
abbrev pub ExpPlus : Type 0
ExpPlus = (x : Float) → is_nan x ≡ false → (is_nan (exp_of x) ≡ false) × (negative (exp_of x) ≡ false) × (lt (exp_of x) nought ≡ false)

-- Wherever sin x is a number, that is for |x| up to 65,536, it is at most 1 in size.
-- Elsewhere it is NaN (`SinBeyond`).
abbrev pub SinSize : Type 0
SinSize = (x : Float) → Within x 65536 → Within (sin_of x) 1

-- Wherever cos x is a number, that is for |x| up to 65,536, it is at most 1 in size.
-- Elsewhere it is NaN (`CosBeyond`).
abbrev pub CosSize : Type 0
CosSize = (x : Float) → Within x 65536 → Within (cos_of x) 1

-- ---- the square root

-- For x above 0, sqrt x is r units of 2 ^ f / 2 ^ 1074, with r of 53 digits, and x lies strictly between the squares of r - 1/2 and r + 1/2 units:
-- it is the float nearest to the root of x. The ends are never met, so no tie arises.
abbrev pub SqrtNear : Type 0
SqrtNear =
    (x : Float) → T (fits binary64 x) → negative x ≡ false → 0 < numerator x
    → (r : ℕ) × (f : ℕ) × (2 ^ 52 ≤ r) × (r < 2 ^ 53) × HasValue (sqrt_of x) false (r * 2 ^ f) (2 ^ 1074)
    × ((2 * r - 1) * (2 * r - 1) * (2 ^ f * 2 ^ f) * denominator x < 4 * numerator x * 2 ^ 2148)
    × (4 * numerator x * 2 ^ 2148 < (2 * r + 1) * (2 * r + 1) * (2 ^ f * 2 ^ f) * denominator x)

-- ---- special values

-- exp of either zero is 1.
-- s is the zero's sign.
abbrev pub ExpZero : Type 0
ExpZero = (s : Bool) → exp_of (fin s 0 (pos 0)) ≡ unit

-- exp of NaN is NaN, above 709 it is +infinity, and below -745 it is 0.
-- Both infinities are such arguments.
abbrev pub ExpEnds : Type 0
ExpEnds = (exp_of nan ≡ nan) × ((x : Float) → lt most x ≡ true → exp_of x ≡ inf false) × ((x : Float) → lt x least ≡ true → exp_of x ≡ nought)

-- log of NaN and of a number below 0 is NaN, of either zero it is -infinity;
-- of +infinity it is +infinity, and of 1 it is 0.
abbrev pub LogEnds : Type 0
LogEnds =
    (log_of nan ≡ nan) × ((x : Float) → lt x nought ≡ true → log_of x ≡ nan) × ((s : Bool) → log_of (fin s 0 (pos 0)) ≡ inf true)
    × (log_of (inf false) ≡ inf false) × (log_of unit ≡ nought)

-- sin of either zero is +0, and cos of it is 1.
-- s is the zero's sign.
abbrev pub SinCosZero : Type 0
SinCosZero = (s : Bool) → (sin_of (fin s 0 (pos 0)) ≡ nought) × (cos_of (fin s 0 (pos 0)) ≡ unit)

-- Beyond 65,536 in size sin is NaN, and so it is of an infinity and of NaN.
-- d < n means |x| > 1, and so on.
abbrev pub SinBeyond : Type 0
SinBeyond = ((x : Float) → 65536 * denominator x < numerator x → sin_of x ≡ nan) × ((s : Bool) → sin_of (inf s) ≡ nan) × (sin_of nan ≡ nan)

-- Beyond 65,536 in size cos is NaN, and so it is of an infinity and of NaN.
-- The bound is the same as that of sin.
abbrev pub CosBeyond : Type 0
CosBeyond = ((x : Float) → 65536 * denominator x < numerator x → cos_of x ≡ nan) × ((s : Bool) → cos_of (inf s) ≡ nan) × (cos_of nan ≡ nan)

-- The square root of either zero is that zero, of +infinity +infinity, of NaN and of any number below 0 NaN.
-- -infinity is below 0, and -0 is not.
abbrev pub SqrtEnds : Type 0
SqrtEnds = ((s : Bool) → sqrt_of (fin s 0 (pos 0)) ≡ fin s 0 (pos 0)) × (sqrt_of (inf false) ≡ inf false) × (sqrt_of nan ≡ nan) × ((x : Float) → lt x nought ≡ true → sqrt_of x ≡ nan)

-- pow (b, 2) is b × b, rounded once.
-- So it is for every b, NaN and infinities included.
abbrev pub PowTwo : Type 0
PowTwo = (b : Float) → pow_of b (fin false 1 (pos 1)) ≡ mul binary64 b b

-- pow (b, e) is 1 for e either zero, and the square root of b for e = 1/2.
-- Both hold for every b.
abbrev pub PowRules : Type 0
PowRules = ((b : Float) (s : Bool) → pow_of b (fin s 0 (pos 0)) ≡ unit) × ((b : Float) → pow_of b (fin false 1 (negsuc 0)) ≡ sqrt_of b)

-- pow (b, n) for a whole n from 1 to 32 is the product of n factors b, taken left to right.
-- `productOf b k` is b times b, k times more, each product rounded once.
abbrev pub PowWhole : Type 0
PowWhole = (b : Float) (n : ℕ) → 1 ≤ n → n ≤ 32 → pow_of b (of_int binary64 (pos n)) ≡ power_product b (n - 1)

-- For any other exponent: b zero gives 0 for e > 0 and +infinity for e < 0, b +infinity the reverse,
-- else a negative b, a NaN b and a NaN e give NaN, and what is left is exp (e × log b), the product rounded once, for a b below 2 ^ -1022 too.
abbrev pub PowLast : Type 0
PowLast =
    (b e : Float) → eq e nought ≡ false → whole_exponent e < 1 → eq e half ≡ false
    → (eq b nought ≡ true → lt nought e ≡ true → pow_of b e ≡ nought) × (eq b nought ≡ true → lt nought e ≡ false → lt e nought ≡ true → pow_of b e ≡ inf false)
    × (eq b nought ≡ false → eq b (inf false) ≡ true → lt nought e ≡ true → pow_of b e ≡ inf false)
    × (eq b nought ≡ false → eq b (inf false) ≡ true → lt nought e ≡ false → lt e nought ≡ true → pow_of b e ≡ nought)
    × (eq b nought ≡ false → eq b (inf false) ≡ false → lt b nought ≡ true → pow_of b e ≡ nan)
    × (eq b nought ≡ false → eq b (inf false) ≡ false → lt b nought ≡ false → is_nan b ≡ true → pow_of b e ≡ nan)
    × (eq b nought ≡ false → eq b (inf false) ≡ false → lt b nought ≡ false → is_nan b ≡ false → is_nan e ≡ true → pow_of b e ≡ nan)
    × (eq b nought ≡ false → eq b (inf false) ≡ false → lt b nought ≡ false → is_nan b ≡ false → is_nan e ≡ false → pow_of b e ≡ exp_of (mul binary64 e (log_of b)))
