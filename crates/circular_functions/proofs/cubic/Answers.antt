-- `circular_functions::cubic` meets its contract. Assumes nothing.
use mathlib.Core.Path.{refl}
use native.Mathlib.Omega.{arith}
use Rattle.circular_functions.proofs.TrigBound.{square_product, square_le, cube_product, cube_le, cubic_le}
use Rattle.circular_functions.proofs.cubic.Goals as goal

pub overflow_mul-q : goal.overflow_mul-q
overflow_mul-q c = omega (arith, square_product c.args.d c.requires)

pub overflow_mul-result : goal.overflow_mul-result
overflow_mul-result c = omega (arith, square_le c.args.d c.requires)

pub overflow_mul-result-2 : goal.overflow_mul-result-2
overflow_mul-result-2 c = omega (arith, cube_product c.args.d c.requires)

pub overflow_sub-result : goal.overflow_sub-result
overflow_sub-result c = cube_le c.args.d c.requires

pub returns : goal.returns
returns c = (refl, cubic_le c.args.d c.requires)
