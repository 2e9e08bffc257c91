-- Bounds of the tables' entries, and of the numbers that the kernel of exp goes through. Assumes nothing.
use Prim.Native.Nat.{ℕ, ◌+◌, ◌*◌, ◌/◌, ◌%◌, ◌^◌, ◌≤◌, ◌<◌}
use native.Mathlib.Omega.{arith}
use native.Mathlib.Nat.{div-le_of_le-mul, le_trans, le-div_iff_mul-le, le-add_right, mul-le-mul}
use lib.Pow.{pow_pos}
use lib.ListN.{get_or}
use lib.Dec.{leb→le}
use Rattle.fixed_point.proofs.Product.{below_mul}
use Rattle.fixed_point.proofs.Table.{at_most, at_least}
use Rattle.exponential_tables.specs.Tables.{coarse, fine}
use Rattle.natural_exponential.specs.Exp.{exp_tail, expm1_of, compounded_of, kernel_of}
use Rattle.fixed_point.specs.Fixed.{high_of, term_of}

pub coarse_le : (i : ℕ) → get_or coarse i 0 ≤ 3134000000000000000
unfolding coarse
coarse_le i = at_most 3134000000000000000 coarse i tt

pub fine_le : (i : ℕ) → get_or fine i 0 ≤ 4755000000000000000
unfolding fine
fine_le i = at_most 4755000000000000000 fine i tt

-- e * e ^ (31 / 1024), in units of 2 ^ -58, is below 2.81
pub high_le : {a b : ℕ} → a ≤ 3134000000000000000 → b ≤ 4755000000000000000 → high_of a b ≤ 808000000000000000
high_le h k = div-le_of_le-mul (2 ^ 64) (le_trans (below_mul 3134000000000000000 4755000000000000000 h k) (leb→le (3134000000000000000 * 4755000000000000000) (2 ^ 64 * 808000000000000000) tt))

-- the numbers of expm1_of, for d below 2 ^ 48
module _ (d : ℕ) (h : d < 2 ^ 48) where
  s_le : d / 2 ^ 16 ≤ 4294967295
  s_le = omega arith

  pub first_le : term_of 715827883 42 (d / 2 ^ 16) 178956971 ≤ 716002646
  first_le = omega (arith, s_le)

  pub first_product : d / 2 ^ 16 * term_of 715827883 42 (d / 2 ^ 16) 178956971 ≤ 4294967295 * 716002646
  first_product = below_mul 4294967295 716002646 s_le first_le

  pub tail_le : exp_tail (d / 2 ^ 16) ≤ 2148182900
  tail_le = omega (arith, first_product)

  pub tail_product : d / 2 ^ 16 * exp_tail (d / 2 ^ 16) ≤ 4294967295 * 2148182900
  tail_product = below_mul 4294967295 2148182900 s_le tail_le

  half_le : d / 2 ^ 16 * exp_tail (d / 2 ^ 16) / 2 ^ 32 ≤ 2148182900
  half_le = omega (arith, tail_product)

  pub remainder_product : d / 2 ^ 16 * (d / 2 ^ 16 * exp_tail (d / 2 ^ 16) / 2 ^ 32) ≤ 4294967295 * 2148182900
  remainder_product = below_mul 4294967295 2148182900 s_le half_le

-- the two products of compounded_of
module _ (c p : ℕ) (h : c ≤ 808000000000000000) (k : p ≤ 2200097350000) where
  pub upper_le : p * (c / 2 ^ 38) ≤ 2200097350000 * 2939487
  upper_le = below_mul 2200097350000 2939487 k (omega arith)

  pub lower_le : p * (c / 2 ^ 16 % 2 ^ 22) ≤ 2200097350000 * 4194303
  lower_le = below_mul 2200097350000 4194303 k (omega arith)

-- ---- bounds from below

pub coarse_ge : (i : ℕ) → i < 65 → 2 ^ 58 ≤ get_or coarse i 0
unfolding coarse
coarse_ge i h = at_least (2 ^ 58) coarse i tt h

pub fine_ge : (i : ℕ) → i < 32 → 2 ^ 62 ≤ get_or fine i 0
unfolding fine
fine_ge i h = at_least (2 ^ 62) fine i tt h

pub high_ge : {a b : ℕ} → 2 ^ 58 ≤ a → 2 ^ 62 ≤ b → 2 ^ 56 ≤ high_of a b
high_ge {a} {b} h k = (le-div_iff_mul-le {k = 2 ^ 64} {x = 2 ^ 56} {y = a * b} (pow_pos 64)).1 (mul-le-mul h k)

compounded_ge : (c p : ℕ) → 128 ≤ c → 128 ≤ compounded_of c p
compounded_ge c p h = le_trans h (le-add_right c ((p * (c / 2 ^ 38) + p * (c / 2 ^ 16 % 2 ^ 22) / 2 ^ 22) / 2 ^ 13))

pub kernel_ge : (t : ℕ) → t ≤ 2 ^ 59 → 128 ≤ kernel_of t
kernel_ge t h =
    let c = high_of (get_or coarse (t / 2 ^ 53) 0) (get_or fine (t / 2 ^ 48 % 32) 0) in
    let g : 2 ^ 56 ≤ c = high_ge (coarse_ge (t / 2 ^ 53) (omega arith)) (fine_ge (t / 2 ^ 48 % 32) (omega arith)) in
    compounded_ge c (expm1_of (t % 2 ^ 48)) (le_trans (leb→le 128 (2 ^ 56) tt) g)
