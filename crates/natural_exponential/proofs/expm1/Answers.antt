-- `natural_exponential::expm1` meets its contract. Assumes nothing.
use mathlib.Core.Path.{refl}
use native.Mathlib.Omega.{arith}
use Rattle.natural_exponential.proofs.Bound.{first_product, tail_product, remainder_product}
use Rattle.natural_exponential.proofs.expm1.Goals as goal

pub overflow_mul-r : goal.overflow_mul-r
overflow_mul-r c = omega (arith, first_product c.args.d c.requires)

pub overflow_add-r : goal.overflow_add-r
overflow_add-r c = omega (arith, first_product c.args.d c.requires)

pub overflow_mul-v : goal.overflow_mul-v
overflow_mul-v c = omega (arith, tail_product c.args.d c.requires)

pub overflow_mul-result : goal.overflow_mul-result
overflow_mul-result c = omega (arith, remainder_product c.args.d c.requires)

pub overflow_add-result : goal.overflow_add-result
overflow_add-result c = omega (arith, remainder_product c.args.d c.requires)

pub returns : goal.returns
returns c = (refl, omega (arith, remainder_product c.args.d c.requires))
