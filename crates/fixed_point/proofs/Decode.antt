-- A finite float by its bits: its size times 2 ^ k, cut down to a whole number, is a shift of its digits. Assumes nothing.
use mathlib.Core.Path.{◌≡◌, refl, sym, ap, ◌∙◌, subst}
use mathlib.Core.Bool.{Bool, true, false, not, cond}
use Prim.Native.Nat.{ℕ, zero, suc, ◌+◌, ◌-◌, ◌*◌, ◌/◌, ◌%◌, ◌^◌, ◌≤◌, ◌<◌}
use native.Mathlib.Omega.{arith}
use native.Mathlib.Nat.{add_comm, mul_assoc, div-eq_of_lt, lt_of_lt_of_le, lt_of_not-le, mod-lt, mul-one, le_trans, le_of_suc-le-suc, le-add_left}
use borrow.Author.Tests.{ltb-true, ltb-false}
use lib.Dec.{T, eqb, ltb, lit≤}
use lib.Pow.{pow-add, pow_pos, pow_mono, shl_lt, shl-shr, mod-mod-pow}
use lib.Ieee.{Float, nan, inf, fin, binary64, up, down, odd, fits, is_nan, of_fields, of_bits, to_bits}
use lib.Ieee.Bits.{of_bits-to_bits}
use lib.Ieee.Digits.{Equals, odd_val}
use lib.Ieee.Fits.{down_pos}
use lib.Ieee.Nearest.{div_same}
use lib.Ieee.Scale.{finite}
use Rattle.fixed_point.proofs.Product.{below_mul}
use Rattle.fixed_point.specs.Fixed.{scaled_of}

-- ---- the value, by the fields

no_nan_or_inf : (b s : Bool) (v : Float) → T (finite v) → cond b (inf s) nan ≡ v → ⊥
no_nan_or_inf true s v h e = subst (λ (w : Float). T (finite w)) (sym e) h
no_nan_or_inf false s v h e = subst (λ (w : Float). T (finite w)) (sym e) h

normal : (c b s : Bool) (w v : Float) (a : ℕ) → T (finite v) → Equals w a (2 ^ 1074) → cond c (cond b (inf s) nan) w ≡ v → Equals v a (2 ^ 1074)
normal true b s w v a h k e = absurd (no_nan_or_inf b s v h e)
normal false b s w v a h k e = subst (λ (u : Float). Equals u a (2 ^ 1074)) e k

-- t with a field of 0, and the leading digit added with another
abbrev pub lead : ℕ → ℕ → ℕ
lead zero t = t * 2 ^ 0
lead (suc y) t = (2 ^ 52 + t) * 2 ^ y

fields_value : (s : Bool) (e t : ℕ) (v : Float) → T (finite v) → of_fields binary64 s e t ≡ v → Equals v (lead e t) (2 ^ 1074)
unfolding of_fields
fields_value s zero t v h e = subst (λ (u : Float). Equals u (t * 2 ^ 0) (2 ^ 1074)) e (odd_val 53 s t 0 1074)
fields_value s (suc y) t v h e = normal (eqb (suc y) 2047) (eqb t 0) s (odd 53 s (2 ^ 52 + t) y 1074) v ((2 ^ 52 + t) * 2 ^ y) h (odd_val 53 s (2 ^ 52 + t) y 1074) e

-- ---- the size times 2 ^ k, from the value

times : (m u c a d p : ℕ) → m * u * c ≡ a * d → m * u * p * c ≡ a * p * d
times m u c a d p h = omega (arith, ap (λ (z : ℕ). z * p) h)

pub scaled_value : (k : ℕ) (v : Float) (a c : ℕ) → zero < c → Equals v a c → scaled_of k v ≡ a * 2 ^ k / c
scaled_value k nan a c h e = absurd e
scaled_value k (inf s) a c h e = absurd e
scaled_value k (fin s m e) a c h v = div_same (m * up e * 2 ^ k) (down e) (a * 2 ^ k) c (down_pos e) h (times m (up e) c a (down e) (2 ^ k) v)

-- ---- shifts

up_by : (q a j l : ℕ) → a ≡ j + l → q * 2 ^ a / 2 ^ l ≡ q * 2 ^ j
up_by q a j l e =
    ap (λ (z : ℕ). q * 2 ^ z / 2 ^ l) e ∙ ap (λ (z : ℕ). q * z / 2 ^ l) (pow-add 2 j l) ∙ ap (λ (z : ℕ). z / 2 ^ l) (sym (mul_assoc q (2 ^ j) (2 ^ l))) ∙ shl-shr (q * 2 ^ j) l

down_by : (q a n l : ℕ) → l ≡ a + n → q * 2 ^ a / 2 ^ l ≡ q / 2 ^ n
down_by q a n l e =
    div_same (q * 2 ^ a) (2 ^ l) q (2 ^ n) (pow_pos l) (pow_pos n)
    (mul_assoc q (2 ^ a) (2 ^ n) ∙ ap (λ (z : ℕ). q * z) (sym (pow-add 2 a n)) ∙ ap (λ (z : ℕ). q * 2 ^ z) (sym e))

join : (q y k : ℕ) → q * 2 ^ y * 2 ^ k ≡ q * 2 ^ (y + k)
join q y k = mul_assoc q (2 ^ y) (2 ^ k) ∙ ap (λ (z : ℕ). q * z) (sym (pow-add 2 y k))

above : (e t k l : ℕ) → k ≤ 62 → suc l ≡ 1075 → 1075 ≤ e + k → lead e t * 2 ^ k / 2 ^ l ≡ (t + 2 ^ 52) * 2 ^ (e + k - 1075)
above zero t k l h f g = absurd (no k h g)
  where
    no : (k : ℕ) → k ≤ 62 → 1075 ≤ zero + k → ⊥
    no k h g = omega arith
above (suc y) t k l h f g =
    ap (λ (z : ℕ). z / 2 ^ l) (join (2 ^ 52 + t) y k)
    ∙ up_by (2 ^ 52 + t) (y + k) (suc y + k - 1075) l (omega arith)
    ∙ ap (λ (z : ℕ). z * 2 ^ (suc y + k - 1075)) (add_comm (2 ^ 52) t)

none : (t k l : ℕ) → k ≤ 62 → suc l ≡ 1075 → t < 2 ^ 52 → t * 2 ^ 0 * 2 ^ k / 2 ^ l ≡ (t + 2 ^ 52) / 2 ^ (1075 - k - zero)
none t k l h f b =
    div-eq_of_lt (lt_of_lt_of_le (subst (λ (z : ℕ). z * 2 ^ k < 2 ^ (52 + k)) (sym (mul-one t)) (shl_lt 52 k b)) (pow_mono (omega arith)))
    ∙ sym (div-eq_of_lt (lt_of_lt_of_le (sum t b) (pow_mono {i = 53} (omega arith))))
  where
    sum : (t : ℕ) → t < 2 ^ 52 → t + 2 ^ 52 < 2 ^ 53
    sum t b = omega arith

below : (e t k l : ℕ) → k ≤ 62 → suc l ≡ 1075 → t < 2 ^ 52 → e + k < 1075 → lead e t * 2 ^ k / 2 ^ l ≡ (t + 2 ^ 52) / 2 ^ (1075 - k - e)
below zero t k l h f b g = none t k l h f b
below (suc y) t k l h f b g =
    ap (λ (z : ℕ). z / 2 ^ l) (join (2 ^ 52 + t) y k)
    ∙ down_by (2 ^ 52 + t) (y + k) (1075 - k - suc y) l (omega arith)
    ∙ ap (λ (z : ℕ). z / 2 ^ (1075 - k - suc y)) (add_comm (2 ^ 52) t)

-- ---- the two cases of the code

module _ (x : Float) (fx : T (fits binary64 x)) (h : T (finite x)) where
  abbrev pub field : ℕ
  field = to_bits binary64 x % 2 ^ 63 / 2 ^ 52

  abbrev pub digits : ℕ
  digits = to_bits binary64 x % 2 ^ 63 % 2 ^ 52

  pub value : Equals x (lead field digits) (2 ^ 1074)
  unfolding of_bits
  value =
      subst (λ (t : ℕ). Equals x (lead field t) (2 ^ 1074)) (sym (mod-mod-pow (to_bits binary64 x) 11 52))
      (fields_value _ field (to_bits binary64 x % 2 ^ 52) x h (of_bits-to_bits binary64 x fx))

  pub shifted_up : (k : ℕ) → k ≤ 62 → 1075 ≤ field + k → scaled_of k x ≡ (digits + 2 ^ 52) * 2 ^ (field + k - 1075)
  shifted_up k l g = scaled_value k x (lead field digits) (2 ^ 1074) (pow_pos 1074) value ∙ above field digits k 1074 l refl g

  pub shifted_down : (k : ℕ) → k ≤ 62 → field + k < 1075 → scaled_of k x ≡ (digits + 2 ^ 52) / 2 ^ (1075 - k - field)
  shifted_down k l g = scaled_value k x (lead field digits) (2 ^ 1074) (pow_pos 1074) value ∙ below field digits k 1074 l refl (mod-lt (to_bits binary64 x % 2 ^ 63) (pow_pos 52)) g

  -- one shift serves both: to the left by 11, where nothing is lost, and back to the right
  pub shifted : (k : ℕ) → k ≤ 62 → field + k ≤ 1085 → scaled_of k x ≡ (digits + 2 ^ 52) * 2048 / 2 ^ (1086 - k - field)
  shifted k l g = go (ltb (field + k) 1075) refl
    where
      left : (f k : ℕ) → k ≤ 62 → 1075 ≤ f + k → f + k ≤ 1085 → 11 ≡ f + k - 1075 + (1086 - k - f)
      left f k l u g = omega arith

      right : (f k : ℕ) → k ≤ 62 → f + k < 1075 → 1086 - k - f ≡ 11 + (1075 - k - f)
      right f k l u = omega arith

      go : (b : Bool) → ltb (field + k) 1075 ≡ b → scaled_of k x ≡ (digits + 2 ^ 52) * 2048 / 2 ^ (1086 - k - field)
      go false e =
          let u = ltb-false (field + k) 1075 e in
          shifted_up k l u ∙ sym (up_by (digits + 2 ^ 52) 11 (field + k - 1075) (1086 - k - field) (left field k l u g))
      go true e =
          let u = ltb-true (field + k) 1075 e in
          shifted_down k l u ∙ sym (down_by (digits + 2 ^ 52) 11 (1075 - k - field) (1086 - k - field) (right field k l u))

  -- what is below 2 ^ 63 once it is scaled has no larger exponent
  pub field_le : (k : ℕ) → k ≤ 62 → scaled_of k x < 2 ^ 63 → field + k ≤ 1085
  field_le k l h = le_of_suc-le-suc (lt_of_not-le (λ g. no (scaled_of k x) (digits + 2 ^ 52) (2 ^ (field + k - 1075)) (shifted_up k l (le_trans (lit≤ {m = 1075} {n = 1086} tt) g)) (pow_mono {i = 11} (far (field + k) g)) h (below_mul (digits + 2 ^ 52) (2 ^ (field + k - 1075)) {a = 2 ^ 52} {b = 2048} (le-add_left (2 ^ 52) digits) (pow_mono {i = 11} (far (field + k) g)))))
    where
      far : (n : ℕ) → 1086 ≤ n → 11 ≤ n - 1075
      far n h = omega arith

      no : (v q w : ℕ) → v ≡ q * w → 2048 ≤ w → v < 2 ^ 63 → 2 ^ 52 * 2048 ≤ q * w → ⊥
      no v q w e l h g = omega arith

-- ---- what the code's shifts ask

pub finite_no_nan : (x : Float) → T (finite x) → T (not (is_nan x))
unfolding is_nan
finite_no_nan nan h = h
finite_no_nan (inf s) h = tt
finite_no_nan (fin s m e) h = tt

pub far_shift : (t n : ℕ) → t < 2 ^ 52 → 64 ≤ n → (t + 2 ^ 52) * 2048 / 2 ^ n ≡ 0
far_shift t n h g = div-eq_of_lt (lt_of_lt_of_le (sum t h) (pow_mono g))
  where
    sum : (t : ℕ) → t < 2 ^ 52 → (t + 2 ^ 52) * 2048 < 2 ^ 64
    sum t h = omega arith
