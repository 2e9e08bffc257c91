-- Bounds of the tables of sin and cos, and of the numbers that their kernels and their reduction go through. Assumes nothing.
use Prim.Native.Nat.{ℕ, ◌+◌, ◌-◌, ◌*◌, ◌/◌, ◌%◌, ◌^◌, ◌≤◌, ◌<◌}
use native.Mathlib.Omega.{arith}
use native.Mathlib.Nat.{mul-le-mul_left, mul-le-mul_right}
use lib.ListN.{get_or}
use Rattle.fixed_point.proofs.Product.{below_mul}
use Rattle.fixed_point.proofs.Table.{at_most, at_least}
use Rattle.circular_tables.specs.Tables.{sines, cosines}
use Rattle.circular_functions.specs.Trig.{circular_square, cube_of, fourth_of, sine_cubic, versine_of, scaling_of, decrement_of, quarters_of, circular_left}

pub sines_le : (i : ℕ) → get_or sines i 0 ≤ 2 ^ 58
unfolding sines
sines_le i = at_most (2 ^ 58) sines i tt

-- sin 1 is below 0.85
pub sines_less : (i : ℕ) → get_or sines i 0 ≤ 244000000000000000
unfolding sines
sines_less i = at_most 244000000000000000 sines i tt

pub cosines_le : (i : ℕ) → get_or cosines i 0 ≤ 2 ^ 58
unfolding cosines
cosines_le i = at_most (2 ^ 58) cosines i tt

pub cosines_ge : (i : ℕ) → i < 257 → 2 ^ 57 ≤ get_or cosines i 0
unfolding cosines
cosines_ge i h = at_least (2 ^ 57) cosines i tt h

-- ---- the short series, for d below 2 ^ 50

module _ (d : ℕ) (h : d < 2 ^ 50) where
  pub s_le : d / 2 ^ 18 ≤ 4294967295
  s_le = omega arith

  pub square_product : d / 2 ^ 18 * (d / 2 ^ 18) ≤ 4294967295 * 4294967295
  square_product = below_mul 4294967295 4294967295 s_le s_le

  pub square_le : circular_square (d / 2 ^ 18) ≤ 4294967295
  square_le = omega (arith, square_product)

  third_le : 715827883 * circular_square (d / 2 ^ 18) / 2 ^ 32 ≤ 715827883
  third_le = omega (arith, square_le)

  pub cube_product : d / 2 ^ 18 * (715827883 * circular_square (d / 2 ^ 18) / 2 ^ 32) ≤ 4294967295 * 715827883
  cube_product = below_mul 4294967295 715827883 s_le third_le

  pub cube_le : cube_of (d / 2 ^ 18) ≤ d
  cube_le = omega (arith, mul-le-mul_left (d / 2 ^ 18) third_le)

  fine_le : 178956971 * circular_square (d / 2 ^ 18) / 2 ^ 40 ≤ 699051
  fine_le = omega (arith, square_le)

  pub fourth_product : circular_square (d / 2 ^ 18) * (178956971 * circular_square (d / 2 ^ 18) / 2 ^ 40) ≤ 4294967295 * 699051
  fourth_product = below_mul 4294967295 699051 square_le fine_le

  pub fourth_le : fourth_of (circular_square (d / 2 ^ 18)) ≤ circular_square (d / 2 ^ 18)
  fourth_le = omega (arith, mul-le-mul_left (circular_square (d / 2 ^ 18)) fine_le)

  pub cubic_le : sine_cubic d ≤ 2 ^ 42
  cubic_le = omega arith

  pub versine_le : versine_of d ≤ 2 ^ 32
  versine_le = omega (arith, square_le)

-- ---- the two products with a table's entry

module _ (a p : ℕ) (h : a ≤ 2 ^ 58) (k : p ≤ 2 ^ 42) where
  pub upper_le : p * (a / 2 ^ 38) ≤ 4398046511104 * 1048576
  upper_le = below_mul 4398046511104 1048576 k (omega arith)

  pub lower_le : p * (a / 2 ^ 16 % 2 ^ 22) ≤ 4398046511104 * 4194303
  lower_le = below_mul 4398046511104 4194303 k (omega arith)

  pub scaling_le : scaling_of a p ≤ 2 ^ 51
  scaling_le = omega (arith, upper_le, lower_le)

module _ (a e : ℕ) (h : a ≤ 2 ^ 58) (k : e ≤ 2 ^ 32) where
  pub drop_product : e * (a / 2 ^ 27) ≤ 4294967296 * 2147483648
  drop_product = below_mul 4294967296 2147483648 k (omega arith)

  pub decrement_less : decrement_of a e ≤ a
  decrement_less = omega (arith, mul-le-mul_right (a / 2 ^ 27) k)

  pub decrement_le : decrement_of a e ≤ 2 ^ 41
  decrement_le = omega (arith, drop_product)

-- ---- the reduction: a is m / 2 ^ 31, and n the number of quarter turns

under : (m a n : ℕ) → 2147483648 * a ≤ m → 140737488355328 * n ≤ 2734261102 * a + 70368744177664 → 110534964875444 * n ≤ m + 55267482437723
under m a n h k = omega arith

over : (m a n : ℕ) → a ≤ 2147483648 → m < 2147483648 * a + 2147483648 → 2734261102 * a + 70368744177664 < 140737488355328 * n + 140737488355328 → m ≤ 110534964875444 * n + 55290000000000
over m a n s h k = omega arith

halves : (m : ℕ) → (2147483648 * (m / 2 ^ 31) ≤ m) × (m < 2147483648 * (m / 2 ^ 31) + 2147483648)
halves m = (omega arith, omega arith)

times : (p : ℕ) → (140737488355328 * (p / 2 ^ 47) ≤ p) × (p < 140737488355328 * (p / 2 ^ 47) + 140737488355328)
times p = (omega arith, omega arith)

module _ (m : ℕ) (h : m ≤ 65536 * 2 ^ 46) where
  pub quarters_few : quarters_of m ≤ 41722
  quarters_few = omega arith

  turns_le : 110534964875444 * quarters_of m ≤ m + 55267482437723
  turns_le = under m (m / 2 ^ 31) (quarters_of m) (halves m).0 (omega (arith, (times (m / 2 ^ 31 * 2734261102 + 2 ^ 46)).0))

  turns_ge : m ≤ 110534964875444 * quarters_of m + 55290000000000
  turns_ge = over m (m / 2 ^ 31) (quarters_of m) (omega arith) (halves m).1 (omega (arith, (times (m / 2 ^ 31 * 2734261102 + 2 ^ 46)).1))

  pub left_some : quarters_of m * 110534964875444 ≤ m + 2 ^ 46
  left_some = some m (quarters_of m) turns_le
    where
      some : (m n : ℕ) → 110534964875444 * n ≤ m + 55267482437723 → n * 110534964875444 ≤ m + 2 ^ 46
      some m n h = omega arith

  pub left_fits : (m + 2 ^ 46 - quarters_of m * 110534964875444) * 4096 ≤ 2 ^ 59
  left_fits = fits m (quarters_of m) turns_ge
    where
      fits : (m n : ℕ) → m ≤ 110534964875444 * n + 55290000000000 → (m + 2 ^ 46 - n * 110534964875444) * 4096 ≤ 2 ^ 59
      fits m n h = omega arith

  pub left_more : quarters_of m * 1629119075 / 2 ^ 20 ≤ (m + 2 ^ 46 - quarters_of m * 110534964875444) * 4096
  left_more = more m (quarters_of m) quarters_few turns_le
    where
      more : (m n : ℕ) → n ≤ 41722 → 110534964875444 * n ≤ m + 55267482437723 → n * 1629119075 / 2 ^ 20 ≤ (m + 2 ^ 46 - n * 110534964875444) * 4096
      more m n f h = omega arith

  pub left_in : circular_left m (quarters_of m) ≤ 2 ^ 59
  left_in = less ((m + 2 ^ 46 - quarters_of m * 110534964875444) * 4096) (quarters_of m * 1629119075 / 2 ^ 20) left_fits
    where
      less : (a b : ℕ) → a ≤ 2 ^ 59 → a - b ≤ 2 ^ 59
      less a b h = omega arith
