-- Bounds of the tables of log, and of the numbers that it goes through. Assumes nothing.
use mathlib.Core.Path.{sym, subst, ◌∙◌}
use mathlib.Core.Bool.{Bool, true, ◌&&◌}
use mathlib.Core.List.{List, [], ◌∷◌}
use Prim.Native.Nat.{ℕ, zero, suc, ◌+◌, ◌-◌, ◌*◌, ◌/◌, ◌%◌, ◌^◌, ◌≤◌, ◌<◌}
use native.Mathlib.Omega.{arith}
use native.Mathlib.Nat.{le_trans, mul-le-mul_right, not-suc-le-zero, le_of_suc-le-suc, suc-add, add-suc, add-zero, zero-add}
use lib.ListN.{length, get_or}
use lib.Dec.{T, leb, leb→le}
use lib.Ieee.Fits.{and_l, and_r}
use Rattle.fixed_point.proofs.Product.{below_mul}
use Rattle.fixed_point.proofs.Table.{at_most}
use Rattle.fixed_point.specs.Fixed.{term_of}
use Rattle.logarithm_tables.specs.Tables.{reciprocals, logarithms}
use Rattle.natural_logarithm.specs.Log.{log_tail, log_square, log1m_of, short_of, log_within}

-- ---- the short series

module _ (s : ℕ) (h : s ≤ 2355575561) where
  abbrev a : ℕ
  a = term_of 1431655765 38 s 1227133513

  abbrev b : ℕ
  b = term_of 1717986918 38 s a

  abbrev c : ℕ
  c = term_of 2147483648 38 s b

  abbrev d : ℕ
  d = term_of 2863311530 38 s c

  pub b_product : s * a ≤ 2355575561 * 1442200000
  b_product = below_mul 2355575561 1442200000 h (omega arith)

  pub c_product : s * b ≤ 2355575561 * 1730400000
  c_product = below_mul 2355575561 1730400000 h (omega (arith, b_product))

  pub d_product : s * c ≤ 2355575561 * 2162400000
  d_product = below_mul 2355575561 2162400000 h (omega (arith, c_product))

  pub tail_product : s * d ≤ 2355575561 * 2881900000
  tail_product = below_mul 2355575561 2881900000 h (omega (arith, d_product))

  pub tail_le : log_tail s ≤ 4330000000
  tail_le = omega (arith, tail_product)

module _ (z : ℕ) (h : z ≤ 2470000000000000) where
  pub s_le : z / 2 ^ 20 ≤ 2355575561
  s_le = omega arith

  pub square_product : z / 2 ^ 20 * (z / 2 ^ 20) ≤ 2355575561 * 2355575561
  square_product = below_mul 2355575561 2355575561 s_le s_le

  pub cross_product : z / 2 ^ 20 * (z % 2 ^ 20) ≤ 2355575561 * 1048575
  cross_product = below_mul 2355575561 1048575 s_le (omega arith)

  pub square_le : log_square (z / 2 ^ 20) (z % 2 ^ 20) ≤ 2584000000
  square_le = omega (arith, square_product, cross_product)

  pub log1m_product : log_square (z / 2 ^ 20) (z % 2 ^ 20) * log_tail (z / 2 ^ 20) ≤ 2584000000 * 4330000000
  log1m_product = below_mul 2584000000 4330000000 square_le (tail_le (z / 2 ^ 20) s_le)

  pub log1m_le : log1m_of z ≤ 2 ^ 57
  log1m_le = omega (arith, log1m_product)

  pub log1m_less : log1m_of z ≤ 2500000000000000
  log1m_less = omega (arith, log1m_product)

-- ---- the tables

pub logarithms_le : (i : ℕ) → get_or logarithms i 0 ≤ 2 ^ 58
unfolding logarithms
logarithms_le i = at_most (2 ^ 58) logarithms i tt

-- log 2 is below 0.694
pub logarithms_less : (i : ℕ) → get_or logarithms i 0 ≤ 200000000000000000
unfolding logarithms
logarithms_less i = at_most 200000000000000000 logarithms i tt

-- each reciprocal is none too large at its piece's upper end, and little too small at its lower end
abbrev inside : ℕ → ℕ → Bool
inside i r = leb ((2 ^ 52 + suc i * 2 ^ 45) * r) (2 ^ 62) && leb (2 ^ 62) ((2 ^ 52 + i * 2 ^ 45) * r + 39520000000000000)

abbrev all_inside : ℕ → List ℕ → Bool
all_inside i [] = true
all_inside i (r ∷ rs) = inside i r && all_inside (suc i) rs

abbrev pub Inside : ℕ → ℕ → Type 0
Inside i r = ((2 ^ 52 + suc i * 2 ^ 45) * r ≤ 2 ^ 62) × (2 ^ 62 ≤ (2 ^ 52 + i * 2 ^ 45) * r + 39520000000000000)

insides : (i : ℕ) (rs : List ℕ) → T (all_inside i rs) → (n : ℕ) → n < length rs → Inside (i + n) (get_or rs n 0)
insides i [] t n h = absurd (not-suc-le-zero h)
insides i (r ∷ rs) t zero h =
    let p = and_l (inside i r) (all_inside (suc i) rs) t in
    let u = leb ((2 ^ 52 + suc i * 2 ^ 45) * r) (2 ^ 62) in
    let v = leb (2 ^ 62) ((2 ^ 52 + i * 2 ^ 45) * r + 39520000000000000) in
    subst (λ (j : ℕ). Inside j r) (sym (add-zero i)) (leb→le ((2 ^ 52 + suc i * 2 ^ 45) * r) (2 ^ 62) (and_l u v p), leb→le (2 ^ 62) ((2 ^ 52 + i * 2 ^ 45) * r + 39520000000000000) (and_r u v p))
insides i (r ∷ rs) t (suc n) h = subst (λ (j : ℕ). Inside j (get_or rs n 0)) (suc-add i n ∙ sym (add-suc i n)) (insides (suc i) rs (and_r (inside i r) (all_inside (suc i) rs) t) n (le_of_suc-le-suc h))

pub reciprocals_inside : (i : ℕ) → i < 128 → Inside i (get_or reciprocals i 0)
unfolding reciprocals
reciprocals_inside i h = subst (λ (j : ℕ). Inside j (get_or reciprocals i 0)) (zero-add i) (insides 0 reciprocals tt i h)

module _ (t : ℕ) (h : t < 2 ^ 52) where
  abbrev r : ℕ
  r = get_or reciprocals (t / 2 ^ 45) 0

  at_lt : t / 2 ^ 45 < 128
  at_lt = omega arith

  pub short_some : (t + 2 ^ 52) * r ≤ 2 ^ 62
  short_some = le_trans (mul-le-mul_right r (above t)) (reciprocals_inside (t / 2 ^ 45) at_lt).0
    where
      above : (t : ℕ) → t + 2 ^ 52 ≤ 2 ^ 52 + suc (t / 2 ^ 45) * 2 ^ 45
      above t = omega arith

  pub short_le : short_of t r ≤ 2470000000000000
  short_le = less ((t + 2 ^ 52) * r) ((2 ^ 52 + t / 2 ^ 45 * 2 ^ 45) * r) (mul-le-mul_right r (below t)) (reciprocals_inside (t / 2 ^ 45) at_lt).1
    where
      below : (t : ℕ) → 2 ^ 52 + t / 2 ^ 45 * 2 ^ 45 ≤ t + 2 ^ 52
      below t = omega arith

      less : (p q : ℕ) → q ≤ p → 2 ^ 62 ≤ q + 39520000000000000 → (2 ^ 62 - p) / 16 ≤ 2470000000000000
      less p q h k = omega arith

  pub within_ge : 8929000000000000 ≤ log_within t
  within_ge = less (get_or logarithms (t / 2 ^ 45) 0) (log1m_of (short_of t r)) (log1m_less (short_of t r) short_le)
    where
      less : (a s : ℕ) → s ≤ 2500000000000000 → 8929000000000000 ≤ (a + 2 ^ 58 - s) / 32
      less a s h = omega arith

  pub within_le : log_within t ≤ 15300000000000000
  within_le = more (get_or logarithms (t / 2 ^ 45) 0) (log1m_of (short_of t r)) (logarithms_less (t / 2 ^ 45))
    where
      more : (a s : ℕ) → a ≤ 200000000000000000 → (a + 2 ^ 58 - s) / 32 ≤ 15300000000000000
      more a s h = omega arith
