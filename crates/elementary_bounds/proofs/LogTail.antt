-- log above 0: below 2 ^ -1022 by the digits of a number 2 ^ 54 times as large, and everywhere a number of size at most 1024. Assumes nothing.
use mathlib.Core.Path.{◌≡◌, refl, sym, ap, ◌∙◌, subst}
use mathlib.Core.Bool.{Bool, true, false, ◌&&◌, ◌||◌, beq}
use Prim.Native.Nat.{ℕ, zero, suc, ◌+◌, ◌-◌, ◌*◌, ◌/◌, ◌%◌, ◌^◌, ◌≤◌, ◌<◌}
use native.Mathlib.Omega.{arith}
use native.Mathlib.Nat.{eq_of_mul-eq-mul_right, mul-le-mul_left, mul-le-mul_right, mod-lt}
use borrow.Author.Tests.{ltb-true, ltb-false, ne_eqb}
use lib.Dec.{T, ltb, eqb, leb→le, lit≤}
use lib.IntN.{ℤ, pos}
use lib.Pow.{pow_pos}
use lib.Ieee.{Float, nan, inf, fin, binary64, up, down, fits, to_bits, round, neg, mul, lt, le, eq, is_nan}
use lib.Ieee.Exact.{HasValue}
use lib.Ieee.Fits.{down_pos, round-fits}
use lib.Ieee.Order.{round_mono}
use Rattle.fixed_point.specs.Float.{Within, unit, nought, tiny, lift}
use Rattle.fixed_point.proofs.Decode.{lead, field, digits, value}
use Rattle.fixed_point.proofs.Range.{clash, not_negative}
use Rattle.fixed_point.proofs.Rounded.{round_no_nan}
use Rattle.natural_logarithm.specs.Log.{log_within, fraction_of, difference_of, log_digits, log_of}
use Rattle.natural_logarithm.proofs.LogBound.{within_ge, within_le}
use Rattle.natural_logarithm.proofs.LogCases.{difference_plus, difference_minus, reached, log_one, log_tiny, log_bits}
use Rattle.elementary_bounds.specs.Theorems.{negative, LogTail, LogSize}
use Rattle.elementary_bounds.proofs.ExpTail.{round_plus}
use Rattle.elementary_bounds.proofs.RootNear.{smallest, exact}

-- ---- the digits of the larger number

abbrev Lifted : ℕ → ℕ → ℕ → ℕ → Type 0
Lifted e t n d = (1 ≤ e) × ((2 ^ 52 + t) * 2 ^ (e - 1) * d ≡ n * 2 ^ 54 * 2 ^ 1074)

lifted : (y : Float) (n d : ℕ) → T (fits binary64 y) → 0 < d → d ≤ n * 2 ^ 1074 → HasValue y false (n * (1 * 2 ^ 54)) (d * 1) → Lifted (to_bits binary64 y % 2 ^ 63 / 2 ^ 52) (to_bits binary64 y % 2 ^ 63 % 2 ^ 52) n d
lifted nan n d fy p h v = absurd v
lifted (inf s) n d fy p h v = absurd v
lifted (fin true m i) n d fy p h v = clash v.0
lifted (fin false m i) n d fy p h v =
    let y = fin false m i in
    let l = lead (field y fy tt) (digits y fy tt) in
    go (field y fy tt) (eq_of_mul-eq-mul_right (down i) (down_pos i) (l * d) (n * 2 ^ 54 * 2 ^ 1074) (whole (m * up i) (down i) l n d (2 ^ 1074) (value y fy tt) v.1)) (mod-lt (to_bits binary64 y % 2 ^ 63) (pow_pos 52))
  where
    whole : (p D l n d Q : ℕ) → p * Q ≡ l * D → p * (d * 1) ≡ n * (1 * 2 ^ 54) * D → l * d * D ≡ n * 2 ^ 54 * Q * D
    whole p D l n d Q a b = omega (arith, ap (λ (z : ℕ). z * d) a, ap (λ (z : ℕ). z * Q) b)

    none : (t n d Q : ℕ) → t * 2 ^ 0 * d ≡ n * 2 ^ 54 * Q → suc t * d ≤ 2 ^ 52 * d → d ≤ n * Q → 0 < d → ⊥
    none t n d Q e l h p = omega arith

    before : (y : ℕ) → suc y - 1 ≡ y
    before y = omega arith

    some : (y : ℕ) → 1 ≤ suc y
    some y = omega arith

    go : (f : ℕ) → lead f (to_bits binary64 (fin false m i) % 2 ^ 63 % 2 ^ 52) * d ≡ n * 2 ^ 54 * 2 ^ 1074 → to_bits binary64 (fin false m i) % 2 ^ 63 % 2 ^ 52 < 2 ^ 52 → Lifted f (to_bits binary64 (fin false m i) % 2 ^ 63 % 2 ^ 52) n d
    go zero e l = absurd (none (to_bits binary64 (fin false m i) % 2 ^ 63 % 2 ^ 52) n d (2 ^ 1074) e (mul-le-mul_right d l) h p)
    go (suc y) e l = (some y, ap (λ (z : ℕ). (2 ^ 52 + to_bits binary64 (fin false m i) % 2 ^ 63 % 2 ^ 52) * 2 ^ z * d) (before y) ∙ e)

-- ---- the tests that lead to it

apart : (n d : ℕ) → 0 * 1 * d < n * 1 → n * 1 ≡ 0 * 1 * d → ⊥
apart n d h e = omega arith

not_zero : (m : ℕ) (e : ℤ) → lt nought (fin false m e) ≡ true → eq (fin false m e) nought ≡ false
unfolding lt eq
not_zero m e h =
    let n = m * up e in
    let d = down e in
    ap (λ (b : Bool). b && (beq false false || eqb (n * 1) 0)) (ne_eqb (n * 1) (0 * 1 * d) (apart n d (ltb-true (0 * 1 * d) (n * 1) h)))

not_one : (m : ℕ) (e : ℤ) → lt (fin false m e) tiny ≡ true → eq (fin false m e) unit ≡ false
unfolding lt eq
not_one m e h =
    let n = m * up e in
    let d = down e in
    ap (λ (b : Bool). b && (beq false false || eqb (n * 1) 0)) (ne_eqb (n * 1) (1 * 1 * d) (below n d (2 ^ 1022) (leb→le 1 (2 ^ 1022) tt) (ltb-true (n * 2 ^ 1022) (1 * 1 * d) h)))
  where
    below : (n d c : ℕ) → 1 ≤ c → n * c < 1 * 1 * d → n * 1 ≡ 1 * 1 * d → ⊥
    below n d c l h e = omega (arith, h, mul-le-mul_left n l)

pub log_tail_lem : LogTail
unfolding lt is_nan eq mul
log_tail_lem nan fx a b = clash (sym a)
log_tail_lem (inf true) fx a b = clash (sym a)
log_tail_lem (inf false) fx a b = clash (sym b)
log_tail_lem (fin true m i) fx a b = clash (sym a)
log_tail_lem (fin false m i) fx a b =
    let n = m * up i in
    let d = down i in
    let y = round binary64 false (n * (1 * 2 ^ 54)) (d * 1) in
    let p : 0 < n = some n d (ltb-true (0 * 1 * d) (n * 1) a) in
    let h : n * 2 ^ 1022 < d = ones (n * 2 ^ 1022) d (ltb-true (n * 2 ^ 1022) (1 * 1 * d) b) in
    let z = lifted y n d (round-fits binary64 false (n * (1 * 2 ^ 54)) (d * 1)) (down_pos i) (smallest m i fx p h) (exact m i fx p h) in (
      to_bits binary64 y % 2 ^ 63 / 2 ^ 52,
      to_bits binary64 y % 2 ^ 63 % 2 ^ 52,
      z.0,
      mod-lt (to_bits binary64 y % 2 ^ 63) (pow_pos 52),
      z.1,
      log_tiny (fin false m i) refl (not_negative m i) (not_zero m i a) refl (not_one m i b) b,
    )
  where
    some : (n d : ℕ) → 0 * 1 * d < n * 1 → 0 < n
    some n d h = omega arith

    ones : (a d : ℕ) → a < 1 * 1 * d → a < d
    ones a d h = omega arith

-- ---- a difference over 2 ^ 53

thousand : round binary64 false (2 ^ 63) (2 ^ 53) ≡ fin false 1 (pos 10)
unfolding round
thousand = refl

under : (y : Float) → is_nan y ≡ false → negative y ≡ false → T (le y (fin false 1 (pos 10))) → Within y 1024
unfolding le lt eq is_nan
under nan n s h = clash n
under (inf true) n s h = clash s
under (inf false) n s h = absurd h
under (fin true m e) n s h = clash s
under (fin false m e) n s h = plain (m * up e) (down e) (reached (m * up e * 1) (1 * 2 ^ 10 * down e) (is_true (ltb (m * up e * 1) (1 * 2 ^ 10 * down e) || (eqb (m * up e * 1) (1 * 2 ^ 10 * down e) && true)) h))
  where
    plain : (p d : ℕ) → p * 1 ≤ 1 * 2 ^ 10 * d → p ≤ 1024 * d
    plain p d h = omega arith

    is_true : (b : Bool) → T b → b ≡ true
    is_true true t = refl
    is_true false t = absurd t

fraction_within : (d : ℕ) → d ≤ 2 ^ 63 → Within (fraction_of d) 1024
fraction_within d h =
    under (fraction_of d) (round_no_nan binary64 false d (2 ^ 53)) (round_plus binary64 d (2 ^ 53))
    (subst (λ (z : Float). T (le (fraction_of d) z)) thousand (round_mono binary64 d (2 ^ 53) (2 ^ 63) (2 ^ 53) (pow_pos 53) (pow_pos 53) (mul-le-mul_right (2 ^ 53) h)))

neg_within : (y : Float) (Q : ℕ) → Within y Q → Within (neg y) Q
unfolding neg
neg_within nan Q h = h
neg_within (inf s) Q h = h
neg_within (fin s m e) Q h = h

difference_within : (p n : ℕ) → p ≤ n + 2 ^ 63 → n ≤ p + 2 ^ 63 → Within (difference_of p n) 1024
difference_within p n h k = go (ltb p n) refl
  where
    less : (p n : ℕ) → p ≤ n + 2 ^ 63 → p - n ≤ 2 ^ 63
    less p n h = omega arith

    go : (b : Bool) → ltb p n ≡ b → Within (difference_of p n) 1024
    go true e = subst (λ (y : Float). Within y 1024) (sym (difference_minus p n (ltb-true p n e))) (neg_within (fraction_of (n - p)) 1024 (fraction_within (n - p) (less n p k)))
    go false e = subst (λ (y : Float). Within y 1024) (sym (difference_plus p n (ltb-false p n e))) (fraction_within (p - n) (less p n h))

digits_within : (k e t : ℕ) → k ≤ 54 → e < 2048 → t < 2 ^ 52 → Within (log_digits k e t) 1024
digits_within k e t h l g =
    let b = bounds k e (log_within t) h l (within_ge t g) (within_le t g) in
    difference_within (e * 6243314768165359 + log_within t) ((1023 + k) * 6243314768165359 + 2 ^ 53) b.0 b.1
  where
    bounds : (k e w : ℕ) → k ≤ 54 → e < 2048 → 8929000000000000 ≤ w → w ≤ 15300000000000000
        → (e * 6243314768165359 + w ≤ (1023 + k) * 6243314768165359 + 2 ^ 53 + 2 ^ 63) × ((1023 + k) * 6243314768165359 + 2 ^ 53 ≤ e * 6243314768165359 + w + 2 ^ 63)
    bounds k e w h l a b = (omega arith, omega arith)

field_lt : (b : ℕ) → b % 2 ^ 63 / 2 ^ 52 < 2048
field_lt b = omega arith

bits_within : (k : ℕ) (y : Float) → k ≤ 54 → Within (log_digits k (to_bits binary64 y % 2 ^ 63 / 2 ^ 52) (to_bits binary64 y % 2 ^ 63 % 2 ^ 52)) 1024
bits_within k y h = digits_within k (to_bits binary64 y % 2 ^ 63 / 2 ^ 52) (to_bits binary64 y % 2 ^ 63 % 2 ^ 52) h (field_lt (to_bits binary64 y)) (mod-lt (to_bits binary64 y % 2 ^ 63) (pow_pos 52))

pub log_size : LogSize
unfolding lt is_nan eq
log_size nan fx a c = clash (sym a)
log_size (inf true) fx a c = clash (sym a)
log_size (inf false) fx a c = clash c
log_size (fin true m i) fx a c = clash (sym a)
log_size (fin false m i) fx a c = go (eq (fin false m i) unit) refl (lt (fin false m i) tiny) refl
  where
    z : eq (fin false m i) nought ≡ false
    z = not_zero m i a

    go : (o : Bool) → eq (fin false m i) unit ≡ o → (b : Bool) → lt (fin false m i) tiny ≡ b → Within (log_of (fin false m i)) 1024
    go true o b l = subst (λ (y : Float). Within y 1024) (sym (log_one (fin false m i) refl (not_negative m i) z refl o)) (lit≤ {m = 0} {n = 1024} tt)
    go false o true l = subst (λ (y : Float). Within y 1024) (sym (log_tiny (fin false m i) refl (not_negative m i) z refl o l)) (bits_within 54 (mul binary64 (fin false m i) lift) (lit≤ {m = 54} {n = 54} tt))
    go false o false l = subst (λ (y : Float). Within y 1024) (sym (log_bits (fin false m i) refl (not_negative m i) z refl o l)) (bits_within 0 (fin false m i) (lit≤ {m = 0} {n = 54} tt))
