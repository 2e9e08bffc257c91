-- The cases of log's definition, and its last step. Assumes nothing.
use mathlib.Core.Path.{◌≡◌, refl, sym, ap, ◌∙◌}
use mathlib.Core.Bool.{Bool, true, false, cond, ◌&&◌, ◌||◌}
use Prim.Native.Nat.{ℕ, ◌+◌, ◌-◌, ◌*◌, ◌^◌, ◌≤◌, ◌<◌}
use native.Mathlib.Omega.{arith}
use native.Mathlib.Nat.{add_comm, le_of_lt, le_antisymm, lt_of_not-le, mul-le-mul_left}
use borrow.Author.Tests.{lt-ltb, le-ltb, ltb-true, ltb-false, eqb-true, eqb-false, ne_eqb}
use lib.Dec.{ltb, eqb, leb→le}
use lib.Ieee.{Float, nan, inf, fin, binary64, up, down, neg, mul, lt, le, eq, is_nan}
use lib.Ieee.Fits.{down_pos}
use Rattle.fixed_point.specs.Float.{unit, nought, tiny, lift}
use Rattle.natural_logarithm.specs.Log.{fraction_of, difference_of, log_within, log_digits, bits_of, log_of}
use Rattle.fixed_point.proofs.Range.{clash, not_negative}

pub difference_plus : (p n : ℕ) → n ≤ p → difference_of p n ≡ fraction_of (p - n)
difference_plus p n h = ap (λ (b : Bool). cond b (neg (fraction_of (n - p))) (fraction_of (p - n))) (le-ltb p n h)

pub difference_minus : (p n : ℕ) → p < n → difference_of p n ≡ neg (fraction_of (n - p))
difference_minus p n h = ap (λ (b : Bool). cond b (neg (fraction_of (n - p))) (fraction_of (p - n))) (lt-ltb p n h)

-- the same number on both sides changes nothing
pub difference_shift : (p n k : ℕ) → difference_of (p + k) (n + k) ≡ difference_of p n
difference_shift p n k = go (ltb p n) refl
  where
    same : (p n k : ℕ) → p + k - (n + k) ≡ p - n
    same p n k = omega arith

    more : (p n k : ℕ) → p < n → p + k < n + k
    more p n k h = omega arith

    most : (p n k : ℕ) → n ≤ p → n + k ≤ p + k
    most p n k h = omega arith

    go : (b : Bool) → ltb p n ≡ b → difference_of (p + k) (n + k) ≡ difference_of p n
    go true e = difference_minus (p + k) (n + k) (more p n k (ltb-true p n e)) ∙ ap (λ (d : ℕ). neg (fraction_of d)) (same n p k) ∙ sym (difference_minus p n (ltb-true p n e))
    go false e = difference_plus (p + k) (n + k) (most p n k (ltb-false p n e)) ∙ ap fraction_of (same p n k) ∙ sym (difference_plus p n (ltb-false p n e))

pub digits_below : (e t : ℕ) → e < 1023 → log_digits 0 e t ≡ difference_of (log_within t) ((1023 - e) * 6243314768165359 + 2 ^ 53)
digits_below e t h =
    ap (λ (p : ℕ). difference_of p (1023 * 6243314768165359 + 2 ^ 53)) (add_comm (e * 6243314768165359) (log_within t))
    ∙ ap (difference_of (log_within t + e * 6243314768165359)) (sym (under e h))
    ∙ difference_shift (log_within t) ((1023 - e) * 6243314768165359 + 2 ^ 53) (e * 6243314768165359)
  where
    under : (e : ℕ) → e < 1023 → (1023 - e) * 6243314768165359 + 2 ^ 53 + e * 6243314768165359 ≡ 1023 * 6243314768165359 + 2 ^ 53
    under e h = omega arith

pub digits_above : (e t : ℕ) → 1023 ≤ e → log_digits 0 e t ≡ difference_of ((e - 1023) * 6243314768165359 + log_within t) (2 ^ 53)
digits_above e t h = ap (λ (p : ℕ). difference_of p (1023 * 6243314768165359 + 2 ^ 53)) (over e (log_within t) h) ∙ difference_shift ((e - 1023) * 6243314768165359 + log_within t) (2 ^ 53) (1023 * 6243314768165359)
  where
    over : (e w : ℕ) → 1023 ≤ e → e * 6243314768165359 + w ≡ (e - 1023) * 6243314768165359 + w + 1023 * 6243314768165359
    over e w h = omega arith

-- ---- the cases

pub log_nan : (x : Float) → x ≡ nan → log_of x ≡ nan
unfolding log_of is_nan
log_nan x e = ap log_of e

module _ (x : Float) (n : is_nan x ≡ false) where
  pub log_negative : lt x nought ≡ true → log_of x ≡ nan
  unfolding log_of
  log_negative a = simp (n, a)

  module _ (a : lt x nought ≡ false) where
    pub log_zero : eq x nought ≡ true → log_of x ≡ inf true
    unfolding log_of
    log_zero b = simp (n, a, b)

    module _ (b : eq x nought ≡ false) where
      pub log_infinite : eq x (inf false) ≡ true → log_of x ≡ x
      unfolding log_of
      log_infinite c = simp (n, a, b, c)

      module _ (c : eq x (inf false) ≡ false) where
        pub log_one : eq x unit ≡ true → log_of x ≡ nought
        unfolding log_of
        log_one d = simp (n, a, b, c, d)

        module _ (d : eq x unit ≡ false) where
          pub log_tiny : lt x tiny ≡ true → log_of x ≡ bits_of 54 (mul binary64 x lift)
          unfolding log_of
          log_tiny e = simp (n, a, b, c, d, e)

          pub log_bits : lt x tiny ≡ false → log_of x ≡ bits_of 0 x
          unfolding log_of
          log_bits e = simp (n, a, b, c, d, e)

-- ---- which case the tests lead to

pub reached : (a b : ℕ) → (ltb a b || (eqb a b && true)) ≡ true → a ≤ b
reached a b h = go (ltb a b) refl (eqb a b) refl h
  where
    level : (a b : ℕ) → a ≡ b → a ≤ b
    level a b e = omega arith

    go : (s : Bool) → ltb a b ≡ s → (t : Bool) → eqb a b ≡ t → (s || (t && true)) ≡ true → a ≤ b
    go true e t f g = le_of_lt (ltb-true a b e)
    go false e true f g = level a b (eqb-true a b f)
    go false e false f g = clash (sym g)

missed : (a b : ℕ) → (ltb a b || (eqb a b && true)) ≡ false → b < a
missed a b h = go (ltb a b) refl (eqb a b) refl h
  where
    less : (a b : ℕ) → b ≤ a → (a ≡ b → ⊥) → b < a
    less a b h k = lt_of_not-le (λ g. k (le_antisymm g h))

    go : (s : Bool) → ltb a b ≡ s → (t : Bool) → eqb a b ≡ t → (s || (t && true)) ≡ false → b < a
    go true e t f g = clash g
    go false e true f g = clash g
    go false e false f g = less a b (ltb-false a b e) (eqb-false a b f)

pub record Usual (x : Float) : Type 0 where
  pub number : is_nan x ≡ false
  pub sign : lt x nought ≡ false
  pub size : eq x nought ≡ false
  pub normal : lt x tiny ≡ false

and_left : (b c : Bool) → b ≡ false → (b && c) ≡ false
and_left true c e = clash e
and_left false c e = refl

-- from 2 ^ -1022 on
pub usual : (x : Float) → le tiny x ≡ true → Usual x
unfolding le lt eq is_nan
usual nan h = clash (sym h)
usual (inf true) h = clash (sym h)
usual (inf false) h = record { number = refl; sign = refl; size = refl; normal = refl }
usual (fin true m e) h = go (eqb (1 * 1 * down e) (m * up e * 2 ^ 1022)) (eqb (1 * 1 * down e) 0) refl h
  where
    none : (d : ℕ) → 0 < d → 1 * 1 * d ≡ 0 → ⊥
    none d p e = omega arith

    go : (s t : Bool) → eqb (1 * 1 * down e) 0 ≡ t → (s && t) ≡ true → Usual (fin true m e)
    go true true f g = absurd (none (down e) (down_pos e) (eqb-true (1 * 1 * down e) 0 f))
    go true false f g = clash (sym g)
    go false t f g = clash (sym g)
usual (fin false m e) h =
    let l = reached (1 * 1 * down e) (m * up e * 2 ^ 1022) h in
    record {
      number = refl;
      sign = not_negative m e;
      size = and_left (eqb (m * up e * 1) (0 * 1 * down e)) _ (ne_eqb (m * up e * 1) (0 * 1 * down e) (some (m * up e) (down e) (2 ^ 1022) (down_pos e) l));
      normal = le-ltb (m * up e * 2 ^ 1022) (1 * 1 * down e) l;
    }
  where
    some : (p d c : ℕ) → 0 < d → 1 * 1 * d ≤ p * c → p * 1 ≡ 0 * 1 * d → ⊥
    some p d c g l e = omega (arith, l, ap (λ (z : ℕ). z * c) e)

pub record Faded (x : Float) : Type 0 where
  pub number : is_nan x ≡ false
  pub sign : lt x nought ≡ false
  pub size : eq x nought ≡ false
  pub finite : eq x (inf false) ≡ false
  pub other : eq x unit ≡ false
  pub tail : lt x tiny ≡ true

-- above 0, and not from 2 ^ -1022 on
pub faded : (x : Float) → le tiny x ≡ false → lt nought x ≡ true → Faded x
unfolding le lt eq is_nan
faded nan h k = clash (sym k)
faded (inf true) h k = clash (sym k)
faded (inf false) h k = clash h
faded (fin true m e) h k = clash (sym k)
faded (fin false m e) h k =
    let p = m * up e in
    let d = down e in
    let g = ltb-true (0 * 1 * d) (p * 1) k in
    let l = missed (1 * 1 * d) (p * 2 ^ 1022) h in
    record {
      number = refl;
      sign = not_negative m e;
      size = and_left (eqb (p * 1) (0 * 1 * d)) _ (ne_eqb (p * 1) (0 * 1 * d) (apart (0 * 1 * d) (p * 1) g));
      finite = refl;
      other = and_left (eqb (p * 1) (1 * 1 * d)) _ (ne_eqb (p * 1) (1 * 1 * d) (below p d (2 ^ 1022) (leb→le 1 (2 ^ 1022) tt) l));
      tail = lt-ltb (p * 2 ^ 1022) (1 * 1 * d) l;
    }
  where
    apart : (a b : ℕ) → a < b → b ≡ a → ⊥
    apart a b h e = omega arith

    below : (p d c : ℕ) → 1 ≤ c → p * c < 1 * 1 * d → p * 1 ≡ 1 * 1 * d → ⊥
    below p d c l h e = omega (arith, h, mul-le-mul_left p l)

-- a zero
pub zeroes : (x : Float) → eq x nought ≡ true → (is_nan x ≡ false) × (lt x nought ≡ false)
unfolding lt eq is_nan
zeroes nan h = clash (sym h)
zeroes (inf s) h = clash (sym h)
zeroes (fin false m e) h = (refl, not_negative m e)
zeroes (fin true m e) h = (refl, go (eqb (m * up e * 1) (0 * 1 * down e)) refl h)
  where
    none : (p d : ℕ) → p * 1 ≡ 0 * 1 * d → p * 1 + 0 * 1 * d ≤ 0
    none p d e = omega arith

    go : (s : Bool) → eqb (m * up e * 1) (0 * 1 * down e) ≡ s → (s && (false || eqb (m * up e * 1) 0)) ≡ true → ltb 0 (m * up e * 1 + 0 * 1 * down e) ≡ false
    go true f g = le-ltb 0 (m * up e * 1 + 0 * 1 * down e) (none (m * up e) (down e) (eqb-true (m * up e * 1) (0 * 1 * down e) f))
    go false f g = clash (sym g)

-- neither above 0 nor a zero: a NaN or below 0
pub log_else : (x : Float) → lt nought x ≡ false → eq x nought ≡ false → log_of x ≡ nan
unfolding lt eq is_nan
log_else nan h k = log_nan nan refl
log_else (inf true) h k = log_negative (inf true) refl refl
log_else (inf false) h k = clash h
log_else (fin false m e) h k = absurd (go (eqb (m * up e * 1) (0 * 1 * down e)) refl k)
  where
    none : (p d : ℕ) → p * 1 ≤ 0 * 1 * d → p * 1 ≡ 0 * 1 * d
    none p d h = omega arith

    go : (s : Bool) → eqb (m * up e * 1) (0 * 1 * down e) ≡ s → (s && true) ≡ false → ⊥
    go true f g = clash g
    go false f g = eqb-false (m * up e * 1) (0 * 1 * down e) f (none (m * up e) (down e) (ltb-false (0 * 1 * down e) (m * up e * 1) h))
log_else (fin true m e) h k = log_negative (fin true m e) refl (lt-ltb 0 (m * up e * 1 + 0 * 1 * down e) (go (eqb (m * up e * 1) (0 * 1 * down e)) refl (eqb (m * up e * 1) 0) refl k))
  where
    more : (p d : ℕ) → (p * 1 ≡ 0 → ⊥) → 0 < p * 1 + 0 * 1 * d
    more p d n = lt_of_not-le (λ (g : p * 1 + 0 * 1 * d ≤ 0). n (no_size p d g))
      where
        no_size : (p d : ℕ) → p * 1 + 0 * 1 * d ≤ 0 → p * 1 ≡ 0
        no_size p d g = omega arith

    same : (p d : ℕ) → p * 1 ≡ 0 → p * 1 ≡ 0 * 1 * d
    same p d e = omega arith

    go : (s : Bool) → eqb (m * up e * 1) (0 * 1 * down e) ≡ s → (t : Bool) → eqb (m * up e * 1) 0 ≡ t → (s && (false || t)) ≡ false → 0 < m * up e * 1 + 0 * 1 * down e
    go true f true i g = clash g
    go s f false i g = more (m * up e) (down e) (eqb-false (m * up e * 1) 0 i)
    go false f true i g = absurd (eqb-false (m * up e * 1) (0 * 1 * down e) f (same (m * up e) (down e) (eqb-true (m * up e * 1) 0 i)))
