-- exp up to -708, where the result may be below 2 ^ -1022; that it is what it was elsewhere; and that it is never negative. Assumes nothing.
use mathlib.Core.Path.{◌≡◌, refl, sym, ap, ◌∙◌, subst}
use mathlib.Core.Bool.{Bool, true, false, not, cond}
use Prim.Native.Nat.{ℕ, zero, suc, ◌+◌, ◌-◌, ◌*◌, ◌/◌, ◌%◌, ◌^◌, ◌≤◌, ◌<◌, compare, Ordering}
use native.Mathlib.Omega.{arith}
use native.Mathlib.Nat.{le_of_eq, le_of_lt, not-suc-le-zero, lt_of_lt_of_le, lt_of_mul-lt-mul_right, le_of_mul-le-mul_right, mul-le-mul_left, mul-le-mul_right, mul-lt-mul_of_pos_right, mul-pos, div-add-mod', mod-lt, le-div_iff_mul-le, div-lt_iff_lt-mul}
use borrow.Author.Tests.{ltb-true, ltb-false, lt-ltb, le-ltb}
use lib.Arith.{lt_of_le-ne}
use lib.Dec.{T, ltb, eqb, is_le, compare_is_eq, leb→le, nleb→lt, eqb→eq, eqb_refl, lit≤}
use lib.Pow.{pow_pos, pow_mono}
use lib.Ieee.{Format, Float, nan, inf, fin, binary64, up, down, size, nearest, odd, units, round, prec, low, emax, lt, is_nan}
use lib.Ieee.Digits.{size-le}
use lib.Ieee.Exact.{HasValue}
use lib.Ieee.Fits.{down_pos}
use lib.Ieee.Nearest.{closest}
use lib.Ieee.Order.{drop, kept}
use lib.Ieee.Scale.{round_val}
use Rattle.fixed_point.specs.Float.{Within, over, minus_sign, nought}
use Rattle.fixed_point.specs.Fixed.{scaled_of, offset_of}
use Rattle.fixed_point.proofs.Assemble.{same_fraction}
use Rattle.fixed_point.proofs.Range.{clash, not_negative, within_scaled, minus_within, plus_within}
use Rattle.natural_exponential.specs.Exp.{kernel_of, times_of, exp_rest, exp_of, most, least}
use Rattle.natural_exponential.proofs.Cases.{exp_most, exp_least, exp_reduced_lem, exp_inside}
use Rattle.natural_exponential.proofs.Reduce.{reduced}
use Rattle.fixed_point.proofs.Rounded.{round_no_nan}
use Rattle.elementary_bounds.specs.Theorems.{negative, faint, fading_of, ExpKept, ExpPlus}
use Rattle.elementary_bounds.proofs.ExpKernel.{kernel_lt}

-- ---- a fraction and the nearest whole number are at most half apart

abbrev Cmp : Ordering → ℕ → ℕ → Type 0
Cmp Ordering.lt a b = a < b
Cmp Ordering.eq a b = a ≡ b
Cmp Ordering.gt a b = b < a

cmp : (a b : ℕ) → Cmp (compare a b) a b
cmp a b = go (compare a b) (leb→le a b) (nleb→lt a b) (eqb→eq a b) (λ (e : a ≡ b). subst (λ (x : ℕ). T (eqb a x)) e (eqb_refl a))
  where
    go : (o : Ordering) → (T (is_le o) → a ≤ b) → (T (not (is_le o)) → b < a) → (T (compare_is_eq o) → a ≡ b) → (a ≡ b → T (compare_is_eq o)) → Cmp o a b
    go Ordering.lt h k e n = lt_of_le-ne (h tt) n
    go Ordering.eq h k e n = e tt
    go Ordering.gt h k e n = k tt

abbrev Half : ℕ → ℕ → ℕ → Type 0
Half a b w = (2 * (w * b) ≤ 2 * a + b) × (2 * a ≤ 2 * (w * b) + b)

half : (w r b : ℕ) (o : Ordering) → Cmp o (r * 2) b → r < b → Half (w * b + r) b (nearest w o)
half w r b Ordering.lt c h = (omega arith, omega arith)
half w r b Ordering.eq c h = even (w % 2) (parity w)
  where
    parity : (w : ℕ) → w % 2 ≤ 1
    parity w = omega arith

    even : (e : ℕ) → e ≤ 1 → Half (w * b + r) b (w + e)
    even e l = let p = mul-le-mul_right b l in (omega (arith, p), omega (arith, p))
half w r b Ordering.gt c h = (omega arith, omega arith)

closest_half : (a b : ℕ) → 0 < b → Half a b (closest a b)
closest_half a b p = subst (λ (z : ℕ). Half z b (closest a b)) (div-add-mod' a b) (half (a / b) (a % b) b (compare (a % b * 2) b) (cmp (a % b * 2) b) (mod-lt a p))

-- ---- a fraction below 2 ^ -1020, rounded: in units of 2 ^ -1074, at most 1 apart

one_more : (z : ℕ) → z ≤ 54 → z - 53 ≤ 1
one_more z h = omega arith

apart : (n c K t u : ℕ) → u ≡ c * t → c * t ≤ c * 2 → Half n u K → (K * t * c ≤ n + c) × (n ≤ K * t * c + c)
apart n c K t u e l h =
    let f = ap (λ (z : ℕ). K * z) e in
    (omega (arith, f, l, h.0, e), omega (arith, f, l, h.1, e))

below : (n c r : ℕ) → r * c ≤ n + c → n < 2 ^ 54 * c → r * c < (2 ^ 54 + 1) * c
below n c r h k = omega arith

round_near : (a c : ℕ) → 0 < c → a * 2 ^ 1074 < 2 ^ 54 * c
    → (r : ℕ) × HasValue (round binary64 false a c) false r (2 ^ 1074) × (r * c ≤ a * 2 ^ 1074 + c) × (a * 2 ^ 1074 ≤ r * c + c)
round_near a c p h =
    let n = a * 2 ^ 1074 in
    let d = drop 53 n c in
    let K = kept 53 n c in
    let l : d ≤ 1 = one_more (size (n / c)) (size-le (n / c) 54 ((div-lt_iff_lt-mul p).1 h)) in
    let g = apart n c K (2 ^ d) (c * 2 ^ d) refl (mul-le-mul_left c (pow_mono {i = d} {j = 1} l)) (closest_half n (c * 2 ^ d) (mul-pos p (pow_pos d))) in
    let s : K * 2 ^ d < 2 ^ 54 + 1 = lt_of_mul-lt-mul_right c (below n c (K * 2 ^ d) g.0 h) in
    (K * 2 ^ d, round_val binary64 a c (lt_of_lt_of_le s (lit≤ {m = 2 ^ 54 + 1} {n = 2 ^ 2098} tt)), g.0, g.1)

-- ---- the tail

few : (m : ℕ) → 708 * 2 ^ 53 ≤ m → 1087 - (times_of m + 1) ≤ 65
few m h = omega arith

-- v / 128 times a power up to 2 ^ 65 is below 2 ^ 118, which stands for 2 ^ -1020
faint_lt : (v P C : ℕ) → v < 2 ^ 60 → P ≤ 2 ^ 65 → 0 < P → 0 < C → v / 128 * P * C < 2 ^ 118 * C
faint_lt v P C h k p g = mul-lt-mul_of_pos_right (lt_of_lt_of_le (mul-lt-mul_of_pos_right (digits v h) p) (room P k)) g
  where
    digits : (v : ℕ) → v < 2 ^ 60 → v / 128 < 2 ^ 53
    digits v h = omega arith

    room : (P : ℕ) → P ≤ 2 ^ 65 → 2 ^ 53 * P ≤ 2 ^ 118
    room P h = omega arith

pub exp_tail_lem : (x : Float) → is_nan x ≡ false → lt x least ≡ false → lt faint x ≡ false
    → (r : ℕ) × HasValue (exp_of x) false r (2 ^ 1074) × (r * 2 ^ 64 ≤ fading_of x + 2 ^ 64) × (fading_of x ≤ r * 2 ^ 64 + 2 ^ 64)
unfolding lt is_nan
exp_tail_lem nan n h k = clash n
exp_tail_lem (inf true) n h k = clash h
exp_tail_lem (inf false) n h k = clash k
exp_tail_lem (fin false m e) n h k = absurd (none (177 * 2 ^ 2 * down e) (m * up e * 1) (mul-pos (lit≤ {m = 1} {n = 708} tt) (down_pos e)) (ltb-false 0 (177 * 2 ^ 2 * down e + m * up e * 1) k))
  where
    none : (a b : ℕ) → 0 < a → a + b ≤ 0 → ⊥
    none a b g l = omega arith
exp_tail_lem (fin true m e) n h k =
    let x = fin true m e in
    let p = m * up e in
    let d = down e in
    let M = scaled_of 53 x in
    let N = times_of M + 1 in
    let v = kernel_of (exp_rest 1 M N) in
    let P = 2 ^ (1087 - N) in
    let g : 708 * d ≤ p * 1 = ltb-false (p * 1) (708 * d) k in
    let o : over 1 x ≡ true = lt-ltb (1 * d) p (above p d (down_pos e) g) in
    let w : Within x 745 = plain p d (ltb-false (745 * 1 * d) (p * 1) h) in
    let f : 708 * 2 ^ 53 ≤ M = (le-div_iff_mul-le (down_pos e)).1 (many p d (2 ^ 53) g) in
    let b = kernel_lt (exp_rest 1 M N) (reduced 1 M (lit≤ {m = 1} {n = 1} tt) (within_scaled 53 745 x w) (λ z. absurd (not-suc-le-zero (le_of_eq z)))).inside in
    let z = round_near (v / 128 * P) (2 ^ 1138) (pow_pos 1138) (faint_lt v P (2 ^ 1074) b (pow_mono {i = 1087 - N} {j = 65} (few M f)) (pow_pos (1087 - N)) (pow_pos 1074)) in (
      z.0,
      subst (λ (y : Float). HasValue y false z.0 (2 ^ 1074)) (sym (exp_reduced_lem x refl refl h o)) z.1,
      le_of_mul-le-mul_right (first z.0 (v / 128 * P) (2 ^ 1074) z.2) (pow_pos 1074),
      le_of_mul-le-mul_right (second z.0 (v / 128 * P) (2 ^ 1074) z.3) (pow_pos 1074),
    )
  where
    above : (p d : ℕ) → 0 < d → 708 * d ≤ p * 1 → 1 * d < p
    above p d g h = omega arith

    plain : (p d : ℕ) → p * 1 ≤ 745 * 1 * d → p ≤ 745 * d
    plain p d h = omega arith

    many : (p d c : ℕ) → 708 * d ≤ p * 1 → 708 * c * d ≤ p * c
    many p d c h = omega (arith, mul-le-mul_right c h)

    first : (r a c : ℕ) → r * (2 ^ 64 * c) ≤ a * c + 2 ^ 64 * c → r * 2 ^ 64 * c ≤ (a + 2 ^ 64) * c
    first r a c h = omega arith

    second : (r a c : ℕ) → a * c ≤ r * (2 ^ 64 * c) + 2 ^ 64 * c → a * c ≤ (r * 2 ^ 64 + 2 ^ 64) * c
    second r a c h = omega arith

-- ---- from -708 on: the same fraction over 2 ^ 1074

exponent : (s n : ℕ) → n ≤ 1022 → (64 ≤ offset_of s 1087 n) × (offset_of s 1087 n - 64 ≡ offset_of s 1023 n)
exponent s n h = go (eqb s 0)
  where
    go : (b : Bool) → (64 ≤ cond b (1087 + n) (1087 - n)) × (cond b (1087 + n) (1087 - n) - 64 ≡ cond b (1023 + n) (1023 - n))
    go true = (omega arith, omega arith)
    go false = (omega arith, omega arith)

times_up : (m : ℕ) → m ≤ 709 * 2 ^ 53 → times_of m + 0 ≤ 1022
times_up m h = omega arith

times_down : (m : ℕ) → m ≤ 708 * 2 ^ 53 → times_of m + 1 ≤ 1022
times_down m h = omega arith

kept_is : (q s n : ℕ) → n ≤ 1022 → round binary64 false (q * 2 ^ offset_of s 1087 n) (2 ^ 1138) ≡ round binary64 false (q * 2 ^ offset_of s 1023 n) (2 ^ 1074)
kept_is q s n h =
    let e = exponent s n h in
    sym (same_fraction q (offset_of s 1087 n) e.0) ∙ ap (λ (k : ℕ). round binary64 false (q * 2 ^ k) (2 ^ 1074)) e.1

times_few : (x : Float) → is_nan x ≡ false → lt most x ≡ false → lt x faint ≡ false → times_of (scaled_of 53 x) + minus_sign x ≤ 1022
unfolding is_nan lt
times_few nan n a b = clash n
times_few (inf true) n a b = clash b
times_few (inf false) n a b = clash a
times_few (fin true m e) n a b = times_down (scaled_of 53 (fin true m e)) (within_scaled 53 708 (fin true m e) (minus_within 177 2 (fin true m e) tt (λ z. not-suc-le-zero (le_of_eq z)) b))
times_few (fin false m e) n a b = times_up (scaled_of 53 (fin false m e)) (within_scaled 53 709 (fin false m e) (plus_within 709 0 (fin false m e) tt refl a))

-- what is not below -708 is not below -745
not_least : (x : Float) → is_nan x ≡ false → lt x faint ≡ false → lt x least ≡ false
unfolding is_nan lt
not_least nan n h = refl
not_least (inf true) n h = h
not_least (inf false) n h = refl
not_least (fin false m e) n h = refl
not_least (fin true m e) n h = le-ltb (745 * 1 * down e) (m * up e * 1) (wider (m * up e * 1) (down e) (ltb-false (177 * 2 ^ 2 * down e) (m * up e * 1) h))
  where
    wider : (p d : ℕ) → p ≤ 177 * 2 ^ 2 * d → p ≤ 745 * 1 * d
    wider p d h = omega arith

pub exp_kept : ExpKept
exp_kept x n a b =
    let l = not_least x n b in (
      λ o. exp_reduced_lem x n a l o ∙ kept_is (kernel_of (exp_rest (minus_sign x) (scaled_of 53 x) (times_of (scaled_of 53 x) + minus_sign x)) / 128) (minus_sign x) (times_of (scaled_of 53 x) + minus_sign x) (times_few x n a b),
      λ o. exp_inside x n a l o ∙ sym (same_fraction (kernel_of (offset_of (minus_sign x) (2 ^ 58) (scaled_of 58 x)) / 128) 1087 (lit≤ {m = 64} {n = 1087} tt)),
    )

-- ---- no sign

odd_plus : (d q k l : ℕ) → negative (odd d false q k l) ≡ false
unfolding odd
odd_plus d zero k l = refl
odd_plus d (suc q) k l = refl

either_plus : (b : Bool) (x y : Float) → negative x ≡ false → negative y ≡ false → negative (cond b x y) ≡ false
either_plus true x y h k = h
either_plus false x y h k = k

units_plus : (f : Format) (q k : ℕ) → negative (units f false q k) ≡ false
unfolding units
units_plus f q k = either_plus (ltb (q * 2 ^ k) (2 ^ (low f + suc (emax f)))) _ _ (odd_plus (suc (prec f)) q k (low f)) refl

pub round_plus : (f : Format) (a b : ℕ) → negative (round f false a b) ≡ false
unfolding round
round_plus f a b = units_plus f _ _

abbrev Plus : Float → Type 0
Plus y = (is_nan y ≡ false) × (negative y ≡ false) × (lt y nought ≡ false)

plus : (y : Float) → is_nan y ≡ false → negative y ≡ false → Plus y
unfolding is_nan lt
plus nan n s = clash n
plus (inf true) n s = clash s
plus (inf false) n s = (refl, refl, refl)
plus (fin true m e) n s = clash s
plus (fin false m e) n s = (refl, refl, not_negative m e)

rounded : (a b : ℕ) → Plus (round binary64 false a b)
rounded a b = plus (round binary64 false a b) (round_no_nan binary64 false a b) (round_plus binary64 a b)

infinite : Plus (inf false)
unfolding is_nan lt
infinite = (refl, refl, refl)

pub exp_plus : ExpPlus
unfolding is_nan lt
exp_plus x n = go (lt most x) refl (lt x least) refl (over 1 x) refl
  where
    go : (a : Bool) → lt most x ≡ a → (b : Bool) → lt x least ≡ b → (c : Bool) → over 1 x ≡ c → Plus (exp_of x)
    go true a b l c o = subst Plus (sym (exp_most x n a)) infinite
    go false a true l c o = subst Plus (sym (exp_least x n a l)) (plus nought refl refl)
    go false a false l true o = subst Plus (sym (exp_reduced_lem x n a l o)) (rounded _ _)
    go false a false l false o = subst Plus (sym (exp_inside x n a l o)) (rounded _ _)
