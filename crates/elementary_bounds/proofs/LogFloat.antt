-- The bound of log on floats: from 1 to 2, and from 1 / 2 to 1. Assumes nothing.
use mathlib.Core.Path.{◌≡◌, refl, ap, ◌∙◌, subst}
use mathlib.Core.Bool.{Bool, false, ◌&&◌, ◌||◌, beq}
use Prim.Native.Nat.{ℕ, zero, suc, ◌+◌, ◌-◌, ◌*◌, ◌%◌, ◌^◌, ◌≤◌, ◌<◌}
use native.Mathlib.Omega.{arith}
use native.Mathlib.Nat.{lt_of_not-le, eq_of_mul-eq-mul_right, mul-le-mul_left, mul-le-mul_right, mod-lt, zero-add, pow-succ', mul-pos}
use borrow.Author.Tests.{le-ltb, ne_eqb}
use lib.Dec.{T, eqb, leb→le}
use lib.IntN.{ℤ}
use lib.Pow.{pow_pos, pow_mono}
use lib.Ieee.{Float, fin, binary64, up, down, fits, to_bits, lt, eq, is_nan}
use lib.Ieee.Fits.{down_pos}
use Rattle.elementary_bounds.specs.Series.{log_series, NearLog}
use Rattle.fixed_point.specs.Float.{unit}
use Rattle.natural_logarithm.specs.Log.{log_within, difference_of, log_digits, log_of}
use Rattle.fixed_point.proofs.Decode.{lead, field, digits, value}
use Rattle.elementary_bounds.proofs.Homogeneous.{mul_pow}
use Rattle.fixed_point.proofs.Range.{not_negative}
use Rattle.natural_logarithm.proofs.LogBound.{within_ge, within_le}
use Rattle.natural_logarithm.proofs.LogCases.{digits_above, digits_below, log_bits}
use Rattle.elementary_bounds.proofs.LogSum.{series_scaled, near_scaled}
use Rattle.elementary_bounds.proofs.LogNear.{near_above, near_below}

-- ---- a fraction's numerator and denominator times m

pub near_raised : (p n a b m : ℕ) → NearLog p n a b → NearLog p n (a * m) (b * m)
near_raised p n a b m x =
    let e = series_scaled a b m in
    let f : (b * m) ^ 39 ≡ b ^ 39 * m ^ 39 = mul_pow b m 39 in
    record {
      above = up (m ^ 39) (log_series a b) (b ^ 39) (log_series (a * m) (b * m)) ((b * m) ^ 39) e f x.above;
      under = low (m ^ 39) (log_series a b) (b ^ 39) (log_series (a * m) (b * m)) ((b * m) ^ 39) e f x.under;
    }
  where
    up : (M S B S' B' : ℕ) → S' ≡ M * S → B' ≡ B * M → 2 ^ 53 * S + n * (166966608033225 * B) ≤ (p + 512) * (166966608033225 * B) → 2 ^ 53 * S' + n * (166966608033225 * B') ≤ (p + 512) * (166966608033225 * B')
    up M S B S' B' e f h = omega (arith, ap (λ (z : ℕ). n * z) f, ap (λ (z : ℕ). p * z) f, mul-le-mul_left M h)

    low : (M S B S' B' : ℕ) → S' ≡ M * S → B' ≡ B * M → p * (166966608033225 * B) ≤ 2 ^ 53 * S + (n + 512) * (166966608033225 * B) → p * (166966608033225 * B') ≤ 2 ^ 53 * S' + (n + 512) * (166966608033225 * B')
    low M S B S' B' e f h = omega (arith, ap (λ (z : ℕ). n * z) f, ap (λ (z : ℕ). p * z) f, mul-le-mul_left M h)

-- the logarithm of the digits and 1 more, in units of 2 ^ -53
abbrev pub Bounded : ℕ → Type 0
Bounded w = (8929000000000000 ≤ w) × (w ≤ 15300000000000000)

-- ---- the exponent

-- a number between 2 ^ 52 * 2 ^ j and 2 ^ 53 * 2 ^ j has the exponent j
exponent_is : (t y j E : ℕ) → t < 2 ^ 52 → 0 < E → 2 ^ 52 * 2 ^ j * E ≤ (2 ^ 52 + t) * 2 ^ y * E → (2 ^ 52 + t) * 2 ^ y * E < 2 ^ 53 * 2 ^ j * E → y ≡ j
exponent_is t y j E h p a b =
    between y j
    (lt_of_not-le (λ g. above (2 ^ j) (2 ^ y) (mul-le-mul_right E (double j y g)) b))
    (lt_of_not-le (λ g. below (2 ^ j) (2 ^ y) (mul-le-mul_right E (double y j g)) (mul-le-mul_right (2 ^ y * E) h) (mul-pos (pow_pos y) p) a))
  where
    double : (j y : ℕ) → suc j ≤ y → 2 * 2 ^ j ≤ 2 ^ y
    double j y g = subst (λ (z : ℕ). z ≤ 2 ^ y) (pow-succ' 2 j) (pow_mono g)

    between : (y j : ℕ) → y < suc j → j < suc y → y ≡ j
    between y j g k = omega arith

    above : (J Y : ℕ) → 2 * J * E ≤ Y * E → (2 ^ 52 + t) * Y * E < 2 ^ 53 * J * E → ⊥
    above J Y k b = omega arith

    below : (J Y : ℕ) → 2 * Y * E ≤ J * E → suc t * (Y * E) ≤ 2 ^ 52 * (Y * E) → 0 < Y * E → 2 ^ 52 * J * E ≤ (2 ^ 52 + t) * Y * E → ⊥
    below J Y k l z a = omega arith

module _ (m : ℕ) (e : ℤ) (fx : T (fits binary64 (fin false m e))) where
  abbrev x : Float
  x = fin false m e

  abbrev n : ℕ
  n = m * up e

  abbrev E : ℕ
  E = down e

  abbrev f : ℕ
  f = field x fx tt

  abbrev t : ℕ
  t = digits x fx tt

  t_lt : t < 2 ^ 52
  t_lt = mod-lt (to_bits binary64 x % 2 ^ 63) (pow_pos 52)

  -- the field of the exponent, for a number from 2 ^ 52 * 2 ^ j to 2 ^ 53 * 2 ^ j, in units of 2 ^ -1074
  field_is : (j : ℕ) → 2 ^ 52 * 2 ^ j * E ≤ n * 2 ^ 1074 → n * 2 ^ 1074 < 2 ^ 53 * 2 ^ j * E → f ≡ suc j
  field_is j a b = go f refl
    where
      go : (g : ℕ) → f ≡ g → f ≡ suc j
      go zero d = absurd (none (2 ^ j) (pow_pos j) (subst (λ (z : ℕ). 2 ^ 52 * 2 ^ j * E ≤ z) (value x fx tt ∙ ap (λ (g : ℕ). lead g t * E) d) a))
        where
          none : (J : ℕ) → 0 < J → 2 ^ 52 * J * E ≤ t * 2 ^ 0 * E → ⊥
          none J p k = low J (mul-le-mul_right E t_lt) (mul-le-mul_right E p) (down_pos e) k
            where
              low : (J : ℕ) → suc t * E ≤ 2 ^ 52 * E → 1 * E ≤ J * E → 0 < E → 2 ^ 52 * J * E ≤ t * 2 ^ 0 * E → ⊥
              low J u v w k = omega arith
      go (suc y) d =
          let w = value x fx tt ∙ ap (λ (g : ℕ). lead g t * E) d in
          d ∙ ap suc (exponent_is t y j E t_lt (down_pos e) (subst (λ (z : ℕ). 2 ^ 52 * 2 ^ j * E ≤ z) w a) (subst (λ (z : ℕ). z < 2 ^ 53 * 2 ^ j * E) w b))

  -- the tests that lead to the digits
  digits_is : E ≤ 2 * n → eq x unit ≡ false → log_of x ≡ log_digits 0 f t
  unfolding is_nan lt eq
  digits_is h d = log_bits x refl (not_negative m e) (ap (λ (b : Bool). b && (beq false false || eqb (n * 1) 0)) (ne_eqb (n * 1) (0 * 1 * E) (some n E (down_pos e) h))) refl d (le-ltb (m * up e * 2 ^ 1022) (1 * 1 * E) (wide n (2 ^ 1022) E h (leb→le 2 (2 ^ 1022) tt)))
    where
      some : (n E : ℕ) → 0 < E → E ≤ 2 * n → n * 1 ≡ 0 * 1 * E → ⊥
      some n E p h e = omega arith

      wide : (n P E : ℕ) → E ≤ 2 * n → 2 ≤ P → 1 * 1 * E ≤ n * P
      wide n P E h k = omega (arith, mul-le-mul_left n k)

  -- For x from 1 to 2, 1 left out and 2 too, log x is (w - 2 ^ 53) / 2 ^ 53, near the series at (x - 1) / (x + 1)
  pub log_near_above : eq x unit ≡ false → E ≤ n → n < 2 * E → (w : ℕ) × Bounded w × (log_of x ≡ difference_of w (2 ^ 53)) × NearLog w (2 ^ 53) (n - E) (n + E)
  log_near_above d h k =
      let g = field_is 1022 (from n E (2 ^ 1074) h) (to n E (2 ^ 1074) (pow_pos 1074) k) in
      let v = value x fx tt ∙ ap (λ (z : ℕ). lead z t * E) g in
      let c = cancel n t E (2 ^ 1022) (pow_pos 1022) v in (
        log_within t,
        (within_ge t t_lt, within_le t t_lt),
        digits_is (double n E h) d ∙ ap (λ (z : ℕ). log_digits 0 z t) g ∙ digits_above 1023 t (leb→le 1023 1023 tt) ∙ ap (λ (z : ℕ). difference_of z (2 ^ 53)) (zero-add (log_within t)),
        near_scaled (log_within t) (2 ^ 53) (n - E) (n + E) (2 ^ 52) (pow_pos 52)
            (subst (λ (a : ℕ). NearLog (log_within t) (2 ^ 53) a ((n + E) * 2 ^ 52)) (top n t E h c)
            (subst (λ (b : ℕ). NearLog (log_within t) (2 ^ 53) (t * E) b) (bottom n t E c) (near_raised (log_within t) (2 ^ 53) t (2 ^ 53 + t) E (near_above t t_lt)))),
      )
    where
      from : (n E P : ℕ) → E ≤ n → P * E ≤ n * P
      from n E P h = omega (arith, mul-le-mul_right P h)

      to : (n E P : ℕ) → 0 < P → n < 2 * E → n * P < 2 * P * E
      to n E P p k = omega (arith, mul-le-mul_right P k)

      double : (n E : ℕ) → E ≤ n → E ≤ 2 * n
      double n E h = omega arith

      cancel : (n t E A : ℕ) → 0 < A → n * (2 ^ 52 * A) ≡ (2 ^ 52 + t) * A * E → n * 2 ^ 52 ≡ (2 ^ 52 + t) * E
      cancel n t E A p v = eq_of_mul-eq-mul_right A p (n * 2 ^ 52) ((2 ^ 52 + t) * E) (omega (arith, v))

      top : (n t E : ℕ) → E ≤ n → n * 2 ^ 52 ≡ (2 ^ 52 + t) * E → t * E ≡ (n - E) * 2 ^ 52
      top n t E h c = omega arith

      bottom : (n t E : ℕ) → n * 2 ^ 52 ≡ (2 ^ 52 + t) * E → (2 ^ 53 + t) * E ≡ (n + E) * 2 ^ 52
      bottom n t E c = omega arith

  -- For x from 1 / 2 to 1, 1 left out, log x is (w - p) / 2 ^ 53, where p - w is near the series at (1 - x) / (1 + x)
  pub log_near_below : eq x unit ≡ false → E ≤ 2 * n → n < E → (w : ℕ) × Bounded w × (log_of x ≡ difference_of w (6243314768165359 + 2 ^ 53)) × NearLog (6243314768165359 + 2 ^ 53) w (E - n) (n + E)
  log_near_below d h k =
      let g = field_is 1021 (from n E (2 ^ 1073) h) (to n E (2 ^ 1074) (pow_pos 1074) k) in
      let v = value x fx tt ∙ ap (λ (z : ℕ). lead z t * E) g in
      let c = cancel n t E (2 ^ 1021) (pow_pos 1021) v in (
        log_within t,
        (within_ge t t_lt, within_le t t_lt),
        digits_is h d ∙ ap (λ (z : ℕ). log_digits 0 z t) g ∙ digits_below 1022 t (leb→le 1023 1023 tt),
        near_scaled (6243314768165359 + 2 ^ 53) (log_within t) (E - n) (n + E) (2 ^ 53) (pow_pos 53)
            (subst (λ (a : ℕ). NearLog (6243314768165359 + 2 ^ 53) (log_within t) a ((n + E) * 2 ^ 53)) (top n t E t_lt c)
            (subst (λ (b : ℕ). NearLog (6243314768165359 + 2 ^ 53) (log_within t) ((2 ^ 52 - t) * E) b) (bottom n t E c) (near_raised (6243314768165359 + 2 ^ 53) (log_within t) (2 ^ 52 - t) (3 * 2 ^ 52 + t) E (near_below t t_lt)))),
      )
    where
      from : (n E P : ℕ) → E ≤ 2 * n → P * E ≤ n * (2 * P)
      from n E P h = omega (arith, mul-le-mul_right P h)

      to : (n E P : ℕ) → 0 < P → n < E → n * P < P * E
      to n E P p k = omega (arith, mul-le-mul_right P k)

      cancel : (n t E A : ℕ) → 0 < A → n * (2 ^ 53 * A) ≡ (2 ^ 52 + t) * A * E → n * 2 ^ 53 ≡ (2 ^ 52 + t) * E
      cancel n t E A p v = eq_of_mul-eq-mul_right A p (n * 2 ^ 53) ((2 ^ 52 + t) * E) (omega (arith, v))

      top : (n t E : ℕ) → t < 2 ^ 52 → n * 2 ^ 53 ≡ (2 ^ 52 + t) * E → (2 ^ 52 - t) * E ≡ (E - n) * 2 ^ 53
      top n t E h c = split (2 ^ 52 - t) (less t h) (E - n)
        where
          less : (t : ℕ) → t < 2 ^ 52 → t + (2 ^ 52 - t) ≡ 2 ^ 52
          less t h = omega arith

          split : (s : ℕ) → t + s ≡ 2 ^ 52 → (r : ℕ) → s * E ≡ (E - n) * 2 ^ 53
          split s f r = omega (arith, ap (λ (z : ℕ). z * E) f)

      bottom : (n t E : ℕ) → n * 2 ^ 53 ≡ (2 ^ 52 + t) * E → (3 * 2 ^ 52 + t) * E ≡ (n + E) * 2 ^ 53
      bottom n t E c = omega arith
