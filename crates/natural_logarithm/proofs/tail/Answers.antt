-- `natural_logarithm::tail` meets its contract. Assumes nothing.
use mathlib.Core.Path.{refl}
use native.Mathlib.Omega.{arith}
use Rattle.natural_logarithm.proofs.LogBound.{b_product, c_product, d_product, tail_product, tail_le}
use Rattle.natural_logarithm.proofs.tail.Goals as goal

pub overflow_mul-b : goal.overflow_mul-b
overflow_mul-b c = omega (arith, b_product c.args.s c.requires)

pub overflow_add-b : goal.overflow_add-b
overflow_add-b c = omega (arith, b_product c.args.s c.requires)

pub overflow_mul-c : goal.overflow_mul-c
overflow_mul-c c = omega (arith, c_product c.args.s c.requires)

pub overflow_add-c : goal.overflow_add-c
overflow_add-c c = omega (arith, c_product c.args.s c.requires)

pub overflow_mul-d : goal.overflow_mul-d
overflow_mul-d c = omega (arith, d_product c.args.s c.requires)

pub overflow_add-d : goal.overflow_add-d
overflow_add-d c = omega (arith, d_product c.args.s c.requires)

pub overflow_mul-result : goal.overflow_mul-result
overflow_mul-result c = omega (arith, tail_product c.args.s c.requires)

pub overflow_add-result : goal.overflow_add-result
overflow_add-result c = omega (arith, tail_product c.args.s c.requires)

pub returns : goal.returns
returns c = (refl, tail_le c.args.s c.requires)
