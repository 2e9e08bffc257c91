-- Size and sign of a float by its bits: the bits below the sign grow with the size. Assumes nothing.
use mathlib.Core.Path.{◌≡◌, refl, sym, ap, ◌∙◌, subst}
use mathlib.Core.Bool.{Bool, true, false, cond}
use Prim.Native.Nat.{ℕ, zero, suc, ◌+◌, ◌*◌, ◌/◌, ◌%◌, ◌^◌, ◌≤◌, ◌<◌}
use native.Mathlib.Omega.{arith}
use native.Mathlib.Nat.{mod-lt, le_trans, div-add-mod', mul-lt-mul_of_pos_right, mul-le-mul_right, mul-le-mul_left, lt_of_mul-lt-mul_right, le_of_mul-le-mul_right, mul-pos}
use borrow.Author.Tests.{lt-ltb, le-ltb, ltb-true, ltb-false, leb-true, leb-false}
use lib.Dec.{T, ltb, leb, eqb}
use lib.Pow.{pow_pos, pow_mono, pow-add}
use lib.IntN.{ℤ}
use lib.Ieee.{Float, nan, inf, fin, binary64, up, down, odd, fits, is_nan, of_fields, of_bits, to_bits}
use lib.Ieee.Bits.{of_bits-to_bits, to_bits-lt}
use lib.Ieee.Exact.{HasValue, odd_sign}
use lib.Ieee.Fits.{down_pos}
use lib.Ieee.Scale.{finite}
use Rattle.fixed_point.specs.Float.{over, digit, minus_sign, Within}
use Rattle.fixed_point.proofs.Decode.{lead, value, field, digits}

-- ---- 2 ^ k has the field 1023 + k and no digits

-- 2 ^ k in units of 2 ^ -1074
unit : (k : ℕ) → 2 ^ k * 2 ^ 1074 ≡ 2 ^ 52 * 2 ^ (1022 + k)
unit k = plain (2 ^ k) (2 ^ 52) (2 ^ 1022) (2 ^ 1074) (2 ^ (1022 + k)) refl (pow-add 2 1022 k)
  where
    plain : (a h b c p : ℕ) → c ≡ h * b → p ≡ b * a → a * c ≡ h * p
    plain a h b c p e f = omega (arith, ap (λ (z : ℕ). a * z) e, ap (λ (z : ℕ). h * z) f)

double : (i j : ℕ) → suc i ≤ j → 2 * 2 ^ i ≤ 2 ^ j
double i j h = subst (λ (z : ℕ). z ≤ 2 ^ j) (pow-add 2 1 i) (pow_mono (next i j h))
  where
    next : (i j : ℕ) → suc i ≤ j → 1 + i ≤ j
    next i j h = omega arith

-- the fields of a larger number, and of one that is not
lead_above : (k f t : ℕ) → t < 2 ^ 52 → (1023 + k) * 2 ^ 52 < f * 2 ^ 52 + t → 2 ^ 52 * 2 ^ (1022 + k) < lead f t
lead_above k zero t h g = absurd (no k t h g)
  where
    no : (k t : ℕ) → t < 2 ^ 52 → (1023 + k) * 2 ^ 52 < 0 * 2 ^ 52 + t → ⊥
    no k t h g = omega arith
lead_above k (suc y) t h g = go (ltb (1022 + k) y) refl
  where
    same : (k y t : ℕ) → t < 2 ^ 52 → (1023 + k) * 2 ^ 52 < suc y * 2 ^ 52 + t → y ≤ 1022 + k → (y ≡ 1022 + k) × (2 ^ 52 < 2 ^ 52 + t)
    same k y t h g l = (omega arith, omega arith)

    more : (H t P Q : ℕ) → 0 < H * P → 2 * P ≤ Q → H * (2 * P) ≤ H * Q → H * Q ≤ (H + t) * Q → H * P < (H + t) * Q
    more H t P Q p l a b = omega (arith, a, b)

    go : (b : Bool) → ltb (1022 + k) y ≡ b → 2 ^ 52 * 2 ^ (1022 + k) < (2 ^ 52 + t) * 2 ^ y
    go true e =
        let l = double (1022 + k) y (ltb-true (1022 + k) y e) in
        more (2 ^ 52) t (2 ^ (1022 + k)) (2 ^ y) (mul-pos (pow_pos 52) (pow_pos (1022 + k))) l (mul-le-mul_left (2 ^ 52) l) (mul-le-mul_right (2 ^ y) (wide t))
      where
        wide : (t : ℕ) → 2 ^ 52 ≤ 2 ^ 52 + t
        wide t = omega arith
    go false e =
        let s = same k y t h g (ltb-false (1022 + k) y e) in
        subst (λ (z : ℕ). 2 ^ 52 * 2 ^ (1022 + k) < (2 ^ 52 + t) * 2 ^ z) (sym s.0) (mul-lt-mul_of_pos_right s.1 (pow_pos (1022 + k)))

lead_below : (k f t : ℕ) → t < 2 ^ 52 → f * 2 ^ 52 + t ≤ (1023 + k) * 2 ^ 52 → lead f t ≤ 2 ^ 52 * 2 ^ (1022 + k)
lead_below k zero t h g = small t (2 ^ (1022 + k)) h (mul-le-mul_left (2 ^ 52) (pow_pos (1022 + k)))
  where
    small : (t P : ℕ) → t < 2 ^ 52 → 2 ^ 52 * 1 ≤ 2 ^ 52 * P → t * 2 ^ 0 ≤ 2 ^ 52 * P
    small t P h l = omega (arith, l)
lead_below k (suc y) t h g = go (ltb y (1022 + k)) refl
  where
    same : (k y t : ℕ) → suc y * 2 ^ 52 + t ≤ (1023 + k) * 2 ^ 52 → 1022 + k ≤ y → (y ≡ 1022 + k) × (2 ^ 52 + t ≤ 2 ^ 52)
    same k y t g l = (omega arith, omega arith)

    less : (t P Q : ℕ) → (2 ^ 52 + t) * Q ≤ 2 ^ 53 * Q → 2 ^ 52 * (2 * Q) ≤ 2 ^ 52 * P → (2 ^ 52 + t) * Q ≤ 2 ^ 52 * P
    less t P Q a b = omega (arith, a, b)

    wide : (t : ℕ) → t < 2 ^ 52 → 2 ^ 52 + t ≤ 2 ^ 53
    wide t h = omega arith

    go : (b : Bool) → ltb y (1022 + k) ≡ b → (2 ^ 52 + t) * 2 ^ y ≤ 2 ^ 52 * 2 ^ (1022 + k)
    go true e = less t (2 ^ (1022 + k)) (2 ^ y) (mul-le-mul_right (2 ^ y) (wide t h)) (mul-le-mul_left (2 ^ 52) (double y (1022 + k) (ltb-true y (1022 + k) e)))
    go false e =
        let s = same k y t g (ltb-false y (1022 + k) e) in
        subst (λ (z : ℕ). (2 ^ 52 + t) * 2 ^ z ≤ 2 ^ 52 * 2 ^ (1022 + k)) (sym s.0) (mul-le-mul_right (2 ^ (1022 + k)) s.1)

-- ---- above 2 ^ k in size, by the bits

whole : (b : ℕ) → b / 2 ^ 52 * 2 ^ 52 + b % 2 ^ 52 ≡ b
whole b = div-add-mod' b (2 ^ 52)

module _ (k : ℕ) where
  pub over_true : (x : Float) → T (fits binary64 x) → (1023 + k) * 2 ^ 52 < to_bits binary64 x % 2 ^ 63 → over (2 ^ k) x ≡ true
  over_true nan fx g = refl
  over_true (inf s) fx g = refl
  over_true (fin s m e) fx g =
      let x = fin s m e in
      let f = field x fx tt in
      let t = digits x fx tt in
      let l = lead_above k f t (mod-lt (to_bits binary64 x % 2 ^ 63) (pow_pos 52)) (subst (λ (n : ℕ). (1023 + k) * 2 ^ 52 < n) (sym (whole (to_bits binary64 x % 2 ^ 63))) g) in
      lt-ltb (2 ^ k * down e) (m * up e)
      (lt_of_mul-lt-mul_right (2 ^ 1074)
      (moved (2 ^ k) (down e) (2 ^ 1074) (lead f t) (m * up e) (value x fx tt) (mul-lt-mul_of_pos_right (subst (λ (n : ℕ). n < lead f t) (sym (unit k)) l) (down_pos e))))
    where
      moved : (Q d C L p : ℕ) → p * C ≡ L * d → Q * C * d < L * d → Q * d * C < p * C
      moved Q d C L p e h = omega (arith, h)

  finite_case : (s : Bool) (m : ℕ) (e : ℤ) → T (fits binary64 (fin s m e)) → to_bits binary64 (fin s m e) % 2 ^ 63 ≤ (1023 + k) * 2 ^ 52 → ltb (2 ^ k * down e) (m * up e) ≡ false
  finite_case s m e fx g =
      let x = fin s m e in
      let f = field x fx tt in
      let t = digits x fx tt in
      let l = lead_below k f t (mod-lt (to_bits binary64 x % 2 ^ 63) (pow_pos 52)) (subst (λ (n : ℕ). n ≤ (1023 + k) * 2 ^ 52) (sym (whole (to_bits binary64 x % 2 ^ 63))) g) in
      le-ltb (2 ^ k * down e) (m * up e)
      (le_of_mul-le-mul_right (moved (2 ^ k) (down e) (2 ^ 1074) (lead f t) (m * up e) (value x fx tt) (mul-le-mul_right (down e) (subst (λ (n : ℕ). lead f t ≤ n) (sym (unit k)) l))) (pow_pos 1074))
    where
      moved : (Q d C L p : ℕ) → p * C ≡ L * d → L * d ≤ Q * C * d → p * C ≤ Q * d * C
      moved Q d C L p e h = omega (arith, h)

  no_infinity : k ≤ 1000 → 2047 * 2 ^ 52 ≤ (1023 + k) * 2 ^ 52 → ⊥
  no_infinity h g = omega arith

  pub over_false : k ≤ 1000 → (x : Float) → T (fits binary64 x) → is_nan x ≡ false → to_bits binary64 x % 2 ^ 63 ≤ (1023 + k) * 2 ^ 52 → over (2 ^ k) x ≡ false
  unfolding is_nan to_bits
  over_false h nan fx n g = n
  over_false h (inf true) fx n g = absurd (no_infinity h g)
  over_false h (inf false) fx n g = absurd (no_infinity h g)
  over_false h (fin s m e) fx n g = finite_case s m e fx g

pub over_within : (Q : ℕ) (x : Float) → over Q x ≡ false → Within x Q
over_within Q nan h = subst T h tt
over_within Q (inf s) h = subst T h tt
over_within Q (fin s m e) h = ltb-false (Q * down e) (m * up e) h

pub within_over : (Q R : ℕ) (x : Float) → Q ≤ R → Within x Q → over R x ≡ false
within_over Q R nan l h = absurd h
within_over Q R (inf s) l h = absurd h
within_over Q R (fin s m e) l h = le-ltb (R * down e) (m * up e) (le_trans h (mul-le-mul_right (down e) l))

-- ---- the sign

value_sign : (v : Float) (s : Bool) (a c : ℕ) → HasValue v s a c → minus_sign v ≡ digit s
value_sign nan s a c h = absurd h
value_sign (inf t) s a c h = absurd h
value_sign (fin t m e) s a c h = ap digit h.0

special : (b s : Bool) (v : Float) → T (finite v) → cond b (inf s) nan ≡ v → ⊥
special true s v h e = subst (λ (w : Float). T (finite w)) (sym e) h
special false s v h e = subst (λ (w : Float). T (finite w)) (sym e) h

either : (c b s : Bool) (w v : Float) → T (finite v) → minus_sign w ≡ digit s → cond c (cond b (inf s) nan) w ≡ v → minus_sign v ≡ digit s
either true b s w v h k e = absurd (special b s v h e)
either false b s w v h k e = ap minus_sign (sym e) ∙ k

fields_sign : (s : Bool) (e t : ℕ) (v : Float) → T (finite v) → of_fields binary64 s e t ≡ v → minus_sign v ≡ digit s
unfolding of_fields
fields_sign s zero t v h e = ap minus_sign (sym e) ∙ value_sign (odd 53 s t 0 1074) s (t * 2 ^ 0) (2 ^ 1074) (odd_sign 53 s t 0 1074)
fields_sign s (suc y) t v h e = either (eqb (suc y) 2047) (eqb t 0) s (odd 53 s (2 ^ 52 + t) y 1074) v h (value_sign (odd 53 s (2 ^ 52 + t) y 1074) s ((2 ^ 52 + t) * 2 ^ y) (2 ^ 1074) (odd_sign 53 s (2 ^ 52 + t) y 1074)) e

top_digit : (b : ℕ) → b < 2 * 2 ^ 63 → (c : Bool) → leb (2 ^ 63) b ≡ c → b / 2 ^ 63 ≡ digit c
top_digit b h true e = one b h (leb-true (2 ^ 63) b e)
  where
    one : (b : ℕ) → b < 2 * 2 ^ 63 → 2 ^ 63 ≤ b → b / 2 ^ 63 ≡ 1
    one b h k = omega arith
top_digit b h false e = none b (leb-false (2 ^ 63) b e)
  where
    none : (b : ℕ) → b < 2 ^ 63 → b / 2 ^ 63 ≡ 0
    none b k = omega arith

-- the top bit
pub sign_is : (x : Float) → T (fits binary64 x) → T (finite x) → to_bits binary64 x / 2 ^ 63 ≡ minus_sign x
unfolding of_bits
sign_is x fx h =
    let b = to_bits binary64 x in
    top_digit b (to_bits-lt binary64 x fx) (leb (2 ^ 63) b) refl ∙ sym (fields_sign (leb (2 ^ 63) b) (b % 2 ^ 63 / 2 ^ 52) (b % 2 ^ 52) x h (of_bits-to_bits binary64 x fx))
