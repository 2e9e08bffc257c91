-- `fixed_point::high` meets its contract. Assumes nothing.
use mathlib.Core.Path.{◌≡◌, sym, ◌∙◌}
use Prim.Native.Nat.{ℕ, ◌+◌, ◌*◌, ◌/◌, ◌%◌, ◌^◌, ◌≤◌, ◌<◌}
use native.Mathlib.Omega.{arith}
use lib.Pow.{pow_pos}
use Rattle.fixed_point.proofs.Product.{below_mul, upper}
use Rattle.fixed_point.proofs.high.Goals as goal

module _ (c : goal.Start) where
  a1b1 : c.args.a / 4294967296 * (c.args.b / 4294967296) ≤ 2147483647 * 2147483647
  a1b1 = below_mul 2147483647 2147483647 (omega arith) (omega arith)

  a1b0 : c.args.a / 4294967296 * (c.args.b % 4294967296) ≤ 2147483647 * 4294967295
  a1b0 = below_mul 2147483647 4294967295 (omega arith) (omega arith)

  a0b1 : c.args.a % 4294967296 * (c.args.b / 4294967296) ≤ 4294967295 * 2147483647
  a0b1 = below_mul 4294967295 2147483647 (omega arith) (omega arith)

  a0b0 : c.args.a % 4294967296 * (c.args.b % 4294967296) ≤ 4294967295 * 4294967295
  a0b0 = below_mul 4294967295 4294967295 (omega arith) (omega arith)

-- the middle column in two steps, each with its carry
ladder : (h x y z : ℕ) → h + (x + z / 4294967296) / 4294967296 + ((x + z / 4294967296) % 4294967296 + y) / 4294967296 ≡ h + (x + y + z / 4294967296) / 4294967296
ladder h x y z = omega arith

whole : (a b : ℕ) → a / 4294967296 * (b / 4294967296)
    + (a / 4294967296 * (b % 4294967296) + a % 4294967296 * (b % 4294967296) / 4294967296) / 4294967296
    + ((a / 4294967296 * (b % 4294967296) + a % 4294967296 * (b % 4294967296) / 4294967296) % 4294967296 + a % 4294967296 * (b / 4294967296)) / 4294967296
    ≡ a * b / 2 ^ 64
whole a b = ladder _ (a / 4294967296 * (b % 4294967296)) (a % 4294967296 * (b / 4294967296)) (a % 4294967296 * (b % 4294967296)) ∙ sym (upper 4294967296 a b (pow_pos 32))

-- each carry is below 2 ^ 32
carry : (m : ℕ) → m ≤ 18446744073709551615 → m / 4294967296 ≤ 4294967295
carry m k = omega (arith, k)

first : (x z : ℕ) → x ≤ 2147483647 * 4294967295 → z ≤ 4294967295 * 4294967295 → x + z / 4294967296 ≤ 18446744073709551615
first x z p q = omega (arith, p, q)

second : (m y : ℕ) → y ≤ 4294967295 * 2147483647 → m % 4294967296 + y ≤ 18446744073709551615
second m y p = omega (arith, p)

one : (h m : ℕ) → h ≤ 2147483647 * 2147483647 → m ≤ 4294967295 → h + m < 2 ^ 64
one h m p q = omega (arith, p, q)

two : (h m n : ℕ) → h ≤ 2147483647 * 2147483647 → m ≤ 4294967295 → n ≤ 4294967295 → h + m + n < 2 ^ 64
two h m n p q r = omega (arith, p, q, r)

pub overflow_mul-c : goal.overflow_mul-c
overflow_mul-c c = omega (arith, a1b0 c)

pub overflow_mul-c-2 : goal.overflow_mul-c-2
overflow_mul-c-2 c = omega (arith, a0b0 c)

pub overflow_add-c : goal.overflow_add-c
overflow_add-c c = omega (arith, a1b0 c, a0b0 c)

pub overflow_mul-d : goal.overflow_mul-d
overflow_mul-d c = omega (arith, a0b1 c)

pub overflow_add-d : goal.overflow_add-d
overflow_add-d c = omega (arith, a0b1 c)

pub overflow_mul-result : goal.overflow_mul-result
overflow_mul-result c = omega (arith, a1b1 c)

pub overflow_add-result : goal.overflow_add-result
overflow_add-result c = record { fits = one _ _ (a1b1 c) (carry _ (first _ _ (a1b0 c) (a0b0 c))) }

pub overflow_add-result-2 : goal.overflow_add-result-2
overflow_add-result-2 c = record { fits = two _ _ _ (a1b1 c) (carry _ (first _ _ (a1b0 c) (a0b0 c))) (carry _ (second _ _ (a0b1 c))) }

pub returns : goal.returns
returns c = whole c.args.a c.args.b
