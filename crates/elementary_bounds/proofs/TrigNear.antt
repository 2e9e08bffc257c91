-- sin and cos lie within 2 ^ -44 of their power series through the 20th power, from -1 to 1, and are at most 1 in size everywhere. Assumes nothing.
use mathlib.Core.Path.{◌≡◌, refl, sym, ap, ◌∙◌, subst}
use mathlib.Core.Bool.{Bool, true, false, cond}
use Prim.Native.Nat.{ℕ, zero, suc, ◌+◌, ◌-◌, ◌*◌, ◌/◌, ◌%◌, ◌^◌, ◌≤◌, ◌<◌}
use native.Mathlib.Omega.{arith}
use native.Mathlib.Nat.{le_of_lt, le_of_mul-le-mul_left, lt_of_lt_of_le, mul_assoc, mul-le-mul_right, div-add-mod', mod-lt}
use lib.Dec.{leb, eqb, lit≤}
use lib.IntN.{ℤ}
use lib.Pow.{pow_pos, pow_mono, shl_lt}
use lib.Ieee.{Float, nan, inf, fin, binary64, up, down, round}
use lib.Ieee.Exact.{HasValue, round_exact}
use lib.Ieee.Fits.{down_pos}
use borrow.Author.Tests.{ne_eqb}
use Rattle.elementary_bounds.specs.Series.{sin_adding, sin_taking, cos_adding, cos_taking, Near}
use Rattle.fixed_point.specs.Fixed.{scaled_of, apart_of}
use Rattle.fixed_point.specs.Float.{Within, over, digit, minus_sign, nought}
use Rattle.circular_functions.specs.Trig.{sine_of, cosine_of, circular_part, sign_of, circular_signed, quarter_of, sinusoid_of, quarters_of, circular_left, circular_turned, sin_of, cos_of}
use Rattle.elementary_bounds.proofs.Nearness.{near_exact}
use Rattle.fixed_point.proofs.Choice.{either_le}
use Rattle.fixed_point.proofs.Range.{within_scaled}
use Rattle.fixed_point.proofs.Bits.{over_within, within_over}
use Rattle.circular_functions.proofs.TrigBound.{left_in}
use Rattle.circular_functions.proofs.TrigCases.{rest_one, sinusoid_even, sinusoid_odd, turned_reduced, turned_near, sin_inside, cos_inside}
use Rattle.elementary_bounds.proofs.TrigKernel.{sine_close, cosine_close, sine_one, cosine_one}

-- ---- the float by its sign and size

pub signed_value : (n q : ℕ) → q < 2 ^ 53 → HasValue (circular_signed n q) (sign_of (leb 2 (n % 4)) q) q (2 ^ 51)
signed_value n zero h = (refl, refl)
signed_value n (suc q) h =
    subst (λ (b : Bool). HasValue (cond b nought (round binary64 (leb 2 (n % 4)) (suc q) (2 ^ 51))) (leb 2 (n % 4)) (suc q) (2 ^ 51)) (sym (ne_eqb (suc q) 0 (some q)))
    (round_exact binary64 (leb 2 (n % 4)) (suc q) (2 ^ 51) (suc q) 1023 (pow_pos 51) h (lt_of_lt_of_le (shl_lt 53 1023 h) (pow_mono {i = 1076} {j = 2098} (lit≤ {m = 1076} {n = 2098} tt))) (sym (mul_assoc (suc q) (2 ^ 1023) (2 ^ 51))))
  where
    some : (q : ℕ) → suc q ≡ 0 → ⊥
    some q e = omega arith

cut_lt : (v : ℕ) → v ≤ 2 ^ 58 → v / 128 < 2 ^ 53
cut_lt v h = omega arith

-- ---- from -1 to 1

module _ (s : Bool) (m : ℕ) (e : ℤ) (h : Within (fin s m e) 1) where
  abbrev x : Float
  x = fin s m e

  abbrev M : ℕ
  M = scaled_of 58 x

  M_le : M ≤ 2 ^ 58
  M_le = within_scaled 58 1 x h

  near_turned : (k : ℕ) → circular_turned x k ≡ sinusoid_of k (2 ^ 58 + M)
  near_turned k = turned_near x k (within_over 1 1 x (lit≤ {m = 1} {n = 1} tt) h)

  in_reach : over 65536 x ≡ false
  in_reach = within_over 1 65536 x (lit≤ {m = 1} {n = 65536} tt) h

  sin_turned : sin_of x ≡ sinusoid_of (digit s * 2) (2 ^ 58 + M)
  sin_turned = sin_inside x in_reach ∙ near_turned (digit s * 2)

  cos_turned : cos_of x ≡ sinusoid_of 1 (2 ^ 58 + M)
  cos_turned = cos_inside x in_reach ∙ near_turned 1

  above : (m : ℕ) → 2 ^ 58 ≤ 2 ^ 58 + m
  above m = omega arith

  back : (m : ℕ) → 2 ^ 58 + m - 2 ^ 58 ≡ m
  back m = omega arith

  sin_signed : (k : ℕ) → k % 2 ≡ 0 → sinusoid_of k (2 ^ 58 + M) ≡ circular_signed k (sine_of M / 128)
  sin_signed k p = sinusoid_even k (2 ^ 58 + M) (above M) p ∙ ap (λ (z : ℕ). circular_signed k (sine_of z / 128)) (back M)

  cos_signed : sinusoid_of 1 (2 ^ 58 + M) ≡ circular_signed 1 (cosine_of M / 128)
  cos_signed = sinusoid_odd 1 (2 ^ 58 + M) (above M) (odd 1 refl) ∙ ap (λ (z : ℕ). circular_signed 1 (cosine_of z / 128)) (back M)
    where
      odd : (n : ℕ) → n ≡ 1 → n ≡ 0 → ⊥
      odd n e p = omega arith

  one_times : (p d : ℕ) → p ≤ 1 * d → p ≤ d
  one_times p d h = omega arith

  sin_close : Near sin_adding sin_taking (m * up e) (down e) (sine_of M / 128)
  sin_close =
      near_exact sin_adding sin_taking refl refl (lit≤ tt) (lit≤ tt) (sine_of M) 5300 M (m * up e) (down e) (m * up e * 2 ^ 58 % down e) (lit≤ {m = 5300} {n = 16000} tt) (sine_close M M_le)
      (down_pos e) (div-add-mod' (m * up e * 2 ^ 58) (down e)) (le_of_lt (mod-lt (m * up e * 2 ^ 58) (down_pos e))) (one_times (m * up e) (down e) h)

  cos_close : Near cos_adding cos_taking (m * up e) (down e) (cosine_of M / 128)
  cos_close =
      near_exact cos_adding cos_taking refl refl (lit≤ tt) (lit≤ tt) (cosine_of M) 5300 M (m * up e) (down e) (m * up e * 2 ^ 58 % down e) (lit≤ {m = 5300} {n = 16000} tt) (cosine_close M M_le)
      (down_pos e) (div-add-mod' (m * up e * 2 ^ 58) (down e)) (le_of_lt (mod-lt (m * up e * 2 ^ 58) (down_pos e))) (one_times (m * up e) (down e) h)

-- the sign that sin takes
sin_sign : (s : Bool) (m : ℕ) (e : ℤ) (h : Within (fin s m e) 1) → HasValue (sin_of (fin s m e)) (sign_of s (sine_of (scaled_of 58 (fin s m e)) / 128)) (sine_of (scaled_of 58 (fin s m e)) / 128) (2 ^ 51)
sin_sign s m e h = go s h
  where
    q : Bool → ℕ
    q s = sine_of (scaled_of 58 (fin s m e)) / 128

    at : (s : Bool) (h : Within (fin s m e) 1) → digit s * 2 % 2 ≡ 0 → HasValue (sin_of (fin s m e)) (sign_of (leb 2 (digit s * 2 % 4)) (q s)) (q s) (2 ^ 51)
    at s h p =
        subst (λ (y : Float). HasValue y (sign_of (leb 2 (digit s * 2 % 4)) (q s)) (q s) (2 ^ 51)) (sym (sin_turned s m e h ∙ sin_signed s m e h (digit s * 2) p))
        (signed_value (digit s * 2) (q s) (cut_lt (sine_of (scaled_of 58 (fin s m e))) (sine_one (scaled_of 58 (fin s m e)) (M_le s m e h))))

    go : (s : Bool) (h : Within (fin s m e) 1) → HasValue (sin_of (fin s m e)) (sign_of s (q s)) (q s) (2 ^ 51)
    go true h = at true h refl
    go false h = at false h refl

-- For x of size at most 1, sin x is q / 2 ^ 51 with the sign of x, for a q that is near the series at the size of x
pub sin_near : (s : Bool) (m : ℕ) (e : ℤ) → Within (fin s m e) 1
    → (q : ℕ) × HasValue (sin_of (fin s m e)) (sign_of s q) q (2 ^ 51) × Near sin_adding sin_taking (m * up e) (down e) q
sin_near s m e h = (sine_of (scaled_of 58 (fin s m e)) / 128, sin_sign s m e h, sin_close s m e h)

no_sign : (q : ℕ) → sign_of false q ≡ false
no_sign zero = refl
no_sign (suc q) = refl

-- and cos x is q / 2 ^ 51
pub cos_near : (s : Bool) (m : ℕ) (e : ℤ) → Within (fin s m e) 1
    → (q : ℕ) × HasValue (cos_of (fin s m e)) false q (2 ^ 51) × Near cos_adding cos_taking (m * up e) (down e) q
cos_near s m e h =
    let M = scaled_of 58 (fin s m e) in
    let q = cosine_of M / 128 in (
      q,
      subst (λ (b : Bool). HasValue (cos_of (fin s m e)) b q (2 ^ 51)) (no_sign q)
          (subst (λ (y : Float). HasValue y (sign_of false q) q (2 ^ 51)) (sym (cos_turned s m e h ∙ cos_signed s m e h)) (signed_value 1 q (cut_lt (cosine_of M) (cosine_one M (M_le s m e h))))),
      cos_close s m e h,
    )

-- ---- the size, everywhere

value_within : (y : Float) (s : Bool) (q : ℕ) → q ≤ 2 ^ 51 → HasValue y s q (2 ^ 51) → Within y 1
value_within nan s q h v = absurd v
value_within (inf t) s q h v = absurd v
value_within (fin t m e) s q h v = le_of_mul-le-mul_left (most (m * up e) (down e) q (2 ^ 51) v.1 (mul-le-mul_right (down e) h)) (pow_pos 51)
  where
    most : (p d q C : ℕ) → p * C ≡ q * d → q * d ≤ C * d → C * p ≤ C * (1 * d)
    most p d q C e h = omega arith

signed_within : (n v : ℕ) → v ≤ 2 ^ 58 → Within (circular_signed n (v / 128)) 1
signed_within n v h = value_within (circular_signed n (v / 128)) (sign_of (leb 2 (n % 4)) (v / 128)) (v / 128) (cut v h) (signed_value n (v / 128) (cut_lt v h))
  where
    cut : (v : ℕ) → v ≤ 2 ^ 58 → v / 128 ≤ 2 ^ 51
    cut v h = omega arith

part_one : (h r : ℕ) → r ≤ 2 ^ 58 → circular_part h r ≤ 2 ^ 58
part_one h r l = either_le (eqb h 0) (sine_one r l) (cosine_one r l)

sinusoid_within : (n t : ℕ) → t ≤ 2 ^ 59 → Within (sinusoid_of n t) 1
sinusoid_within n t h = signed_within (quarter_of n t) (circular_part (n % 2) (apart_of t (2 ^ 58))) (part_one (n % 2) (apart_of t (2 ^ 58)) (rest_one t h))

turned_within : (x : Float) (k : ℕ) → Within x 65536 → Within (circular_turned x k) 1
turned_within x k h = go (over 1 x) refl
  where
    close : (m : ℕ) → m ≤ 1 * 2 ^ 58 → 2 ^ 58 + m ≤ 2 ^ 59
    close m h = omega arith

    go : (b : Bool) → over 1 x ≡ b → Within (circular_turned x k) 1
    go true p =
        subst (λ (y : Float). Within y 1) (sym (turned_reduced x k p))
        (sinusoid_within (quarters_of (scaled_of 46 x) + k) (circular_left (scaled_of 46 x) (quarters_of (scaled_of 46 x))) (left_in (scaled_of 46 x) (within_scaled 46 65536 x h)))
    go false p =
        subst (λ (y : Float). Within y 1) (sym (turned_near x k p))
        (sinusoid_within k (2 ^ 58 + scaled_of 58 x) (close (scaled_of 58 x) (within_scaled 58 1 x (over_within 1 x p))))

-- For x of size at most 65,536, sin x and cos x are at most 1 in size
pub sin_size : (x : Float) → Within x 65536 → Within (sin_of x) 1
sin_size x h = subst (λ (y : Float). Within y 1) (sym (sin_inside x (within_over 65536 65536 x (lit≤ {m = 65536} {n = 65536} tt) h))) (turned_within x (minus_sign x * 2) h)

pub cos_size : (x : Float) → Within x 65536 → Within (cos_of x) 1
cos_size x h = subst (λ (y : Float). Within y 1) (sym (cos_inside x (within_over 65536 65536 x (lit≤ {m = 65536} {n = 65536} tt) h))) (turned_within x 1 h)
