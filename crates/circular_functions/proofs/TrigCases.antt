-- The cases of sin's and cos's definitions, and the sign. Assumes nothing.
use mathlib.Core.Path.{◌≡◌, refl, sym, ap, ◌∙◌}
use mathlib.Core.Bool.{Bool, true, false, not, cond}
use Prim.Native.Nat.{ℕ, zero, suc, ◌+◌, ◌-◌, ◌*◌, ◌/◌, ◌%◌, ◌^◌, ◌≤◌, ◌<◌}
use native.Mathlib.Omega.{arith}
use native.Mathlib.Nat.{mod-lt, not-suc-le-zero, le_of_suc-le-suc}
use borrow.Author.Tests.{lt-ltb, le-ltb, eq-eqb, ne_eqb, le-leb, lt-leb}
use lib.Dec.{T, ltb, lit<}
use lib.IntN.{pos, negsuc}
use lib.Ieee.{Float, nan, binary64, neg, mul, round, nan_bits, of_bits, of_int}
use Rattle.fixed_point.specs.Fixed.{scaled_of, apart_of}
use Rattle.fixed_point.specs.Float.{over, minus_sign, nought}
use Rattle.fixed_point.proofs.Assemble.{fraction_is}
use Rattle.fixed_point.proofs.Choice.{either_le}
use Rattle.fixed_point.proofs.Negative.{neg_round, mul_minus}
use Rattle.circular_functions.specs.Trig.{sine_cubic, versine_of, scaling_of, decrement_of, sine_from, cosine_from, sine_of, cosine_of, circular_signed, quarter_of, sinusoid_of, circular_reduced, circular_turned, sin_of, cos_of}

-- ---- the sign

pub signed_zero : (n q : ℕ) → q ≡ 0 → nought ≡ circular_signed n q
signed_zero n q e = sym (ap (circular_signed n) e)

pub signed_plus : (n q : ℕ) → (q ≡ 0 → ⊥) → n % 4 < 2 → circular_signed n q ≡ round binary64 false q (2 ^ 51)
signed_plus n q h k = simp (ne_eqb q 0 h, lt-leb 2 (n % 4) k)

pub signed_minus : (n q : ℕ) → (q ≡ 0 → ⊥) → 2 ≤ n % 4 → circular_signed n q ≡ round binary64 true q (2 ^ 51)
signed_minus n q h k = simp (ne_eqb q 0 h, le-leb 2 (n % 4) k)

-- 2 ^ -51 with the sign bit s
abbrev pub factor : ℕ → ℕ
factor s = 4377498837804122112 + s * 9223372036854775808

pub factor_no_nan : (s : ℕ) → s ≤ 1 → T (not (nan_bits binary64 (factor s)))
unfolding nan_bits
factor_no_nan zero h = tt
factor_no_nan (suc zero) h = tt
factor_no_nan (suc (suc s)) h = absurd (not-suc-le-zero (le_of_suc-le-suc h))

pub signed_is : (n q : ℕ) → 0 < q → q < 2 ^ 53 → mul binary64 (of_int binary64 (pos q)) (of_bits binary64 (factor (n % 4 / 2))) ≡ circular_signed n q
unfolding of_bits
signed_is n q p h = go (n % 4 / 2) refl (half (n % 4) (mod-lt n (lit< {m = 0} {n = 4} tt)))
  where
    half : (r : ℕ) → r < 4 → r / 2 ≤ 1
    half r h = omega arith

    low : (r : ℕ) → r / 2 ≡ 0 → r < 2
    low r e = omega arith

    high : (r : ℕ) → r / 2 ≡ 1 → 2 ≤ r
    high r e = omega arith

    some : (q : ℕ) → 0 < q → q ≡ 0 → ⊥
    some q h e = omega arith

    go : (s : ℕ) → n % 4 / 2 ≡ s → s ≤ 1 → mul binary64 (of_int binary64 (pos q)) (of_bits binary64 (factor s)) ≡ circular_signed n q
    go zero e l = fraction_is q p h ∙ sym (signed_plus n q (some q p) (low (n % 4) e))
    go (suc zero) e l = mul_minus (of_int binary64 (pos q)) (negsuc 50) ∙ ap neg (fraction_is q p h) ∙ neg_round binary64 q (2 ^ 51) ∙ sym (signed_minus n q (some q p) (high (n % 4) e))
    go (suc (suc s)) e l = absurd (not-suc-le-zero (le_of_suc-le-suc l))

-- ---- by the parity

-- what is taken off is there
pub part_some : (b : Bool) (u p e : ℕ) → e ≤ u → e ≤ 2 ^ 41 → p ≤ 2 ^ 51 → (b ≡ false → 2 ^ 57 ≤ u) → e ≤ cond b (u + p) (u - p)
part_some true u p e h k l g = omega arith
part_some false u p e h k l g = some u p e k l (g refl)
  where
    some : (u p e : ℕ) → e ≤ 2 ^ 41 → p ≤ 2 ^ 51 → 2 ^ 57 ≤ u → e ≤ u - p
    some u p e k l g = omega arith

pub part_le : (b : Bool) (u p e : ℕ) → u ≤ 2 ^ 58 → p ≤ 2 ^ 51 → cond b (u + p) (u - p) - e ≤ 2 ^ 59
part_le true u p e h k = omega arith
part_le false u p e h k = omega arith

pub part_is : (b : Bool) (S C d u w p e : ℕ) → u ≡ cond b S C → w ≡ cond b C S → p ≡ scaling_of w (sine_cubic d) → e ≡ decrement_of u (versine_of d) → cond b (u + p) (u - p) - e ≡ cond b (sine_from S C d) (cosine_from S C d)
part_is true S C d u w p e f g i j = cc
part_is false S C d u w p e f g i j = cc

-- ---- the quarters

pub rest_one : (t : ℕ) → t ≤ 2 ^ 59 → apart_of t (2 ^ 58) ≤ 2 ^ 58
rest_one t h =
    let a : 2 ^ 58 - t ≤ 2 ^ 58 = omega arith in
    let b : t - 2 ^ 58 ≤ 2 ^ 58 = omega arith in
    either_le (ltb t (2 ^ 58)) a b

module _ (n t : ℕ) where
  pub quarter_low_even : t < 2 ^ 58 → n % 2 ≡ 0 → quarter_of n t ≡ n + 2
  quarter_low_even h e = simp (lt-ltb t (2 ^ 58) h, eq-eqb (n % 2) 0 e)

  pub quarter_low_odd : t < 2 ^ 58 → (n % 2 ≡ 0 → ⊥) → quarter_of n t ≡ n
  quarter_low_odd h e = simp (lt-ltb t (2 ^ 58) h, ne_eqb (n % 2) 0 e)

  pub quarter_high : 2 ^ 58 ≤ t → quarter_of n t ≡ n
  quarter_high h = simp (le-ltb t (2 ^ 58) h)

  pub sinusoid_even : 2 ^ 58 ≤ t → n % 2 ≡ 0 → sinusoid_of n t ≡ circular_signed n (sine_of (t - 2 ^ 58) / 128)
  sinusoid_even h e = simp (le-ltb t (2 ^ 58) h, eq-eqb (n % 2) 0 e)

  pub sinusoid_odd : 2 ^ 58 ≤ t → (n % 2 ≡ 0 → ⊥) → sinusoid_of n t ≡ circular_signed n (cosine_of (t - 2 ^ 58) / 128)
  sinusoid_odd h e = simp (le-ltb t (2 ^ 58) h, ne_eqb (n % 2) 0 e)

-- ---- near and far

module _ (x : Float) (k : ℕ) where
  pub turned_reduced : over 1 x ≡ true → circular_turned x k ≡ circular_reduced (scaled_of 46 x) k
  turned_reduced a = simp a

  pub turned_near : over 1 x ≡ false → circular_turned x k ≡ sinusoid_of k (2 ^ 58 + scaled_of 58 x)
  turned_near a = simp a

-- ---- the whole

pub sin_nan : (x : Float) → x ≡ nan → sin_of x ≡ nan
unfolding sin_of
sin_nan x e = ap sin_of e

pub cos_nan : (x : Float) → x ≡ nan → cos_of x ≡ nan
unfolding cos_of
cos_nan x e = ap cos_of e

module _ (x : Float) where
  pub sin_over : over 65536 x ≡ true → sin_of x ≡ nan
  unfolding sin_of
  sin_over a = simp a

  pub cos_over : over 65536 x ≡ true → cos_of x ≡ nan
  unfolding cos_of
  cos_over a = simp a

  pub sin_inside : over 65536 x ≡ false → sin_of x ≡ circular_turned x (minus_sign x * 2)
  unfolding sin_of
  sin_inside a = simp a

  pub cos_inside : over 65536 x ≡ false → cos_of x ≡ circular_turned x 1
  unfolding cos_of
  cos_inside a = simp a
