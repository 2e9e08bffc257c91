-- `natural_logarithm::log1m` meets its contract. Assumes nothing.
use mathlib.Core.Path.{◌≡◌, sym, ap, subst}
use Prim.Native.Nat.{ℕ, ◌+◌, ◌*◌, ◌/◌, ◌%◌, ◌^◌, ◌≤◌}
use native.Mathlib.Omega.{arith}
use Rattle.natural_logarithm.specs.Log.{log_square, log1m_of}
use Rattle.natural_logarithm.proofs.LogBound.{square_product, cross_product, log1m_product, log1m_le}
use Rattle.natural_logarithm.proofs.log1m.Goals as goal

-- the product with the call's result
product : (c : goal.After-tail) → log_square (c.before.args.z / 2 ^ 20) (c.before.args.z % 2 ^ 20) * c.tail.result ≤ 2584000000 * 4330000000
product c = subst (λ (n : ℕ). log_square (c.args.z / 2 ^ 20) (c.args.z % 2 ^ 20) * n ≤ 2584000000 * 4330000000) (sym c.tail.ensures.0) (log1m_product c.args.z c.requires)

pub overflow_mul-q : goal.overflow_mul-q
overflow_mul-q c = omega (arith, square_product c.args.z c.requires)

pub overflow_mul-q-2 : goal.overflow_mul-q-2
overflow_mul-q-2 c = omega (arith, cross_product c.args.z c.requires)

pub overflow_add-q : goal.overflow_add-q
overflow_add-q c = omega (arith, square_product c.args.z c.requires, cross_product c.args.z c.requires)

pub overflow_mul-result : goal.overflow_mul-result
overflow_mul-result c = omega (arith, product c)

pub overflow_add-result : goal.overflow_add-result
overflow_add-result c = omega (arith, product c, c.requires)

pub returns : goal.returns
returns c =
    let z = c.args.z in
    let e : z + log_square (z / 2 ^ 20) (z % 2 ^ 20) * c.tail.result / 2 ^ 20 ≡ log1m_of z = ap (λ (n : ℕ). z + log_square (z / 2 ^ 20) (z % 2 ^ 20) * n / 2 ^ 20) c.tail.ensures.0 in
    (e, subst (λ (n : ℕ). n ≤ 2 ^ 57) (sym e) (log1m_le z c.requires))
