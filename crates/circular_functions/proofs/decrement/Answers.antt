-- `circular_functions::decrement` meets its contract. Assumes nothing.
use mathlib.Core.Path.{refl}
use native.Mathlib.Omega.{arith}
use Rattle.circular_functions.proofs.TrigBound.{drop_product, decrement_less, decrement_le}
use Rattle.circular_functions.proofs.decrement.Goals as goal

pub overflow_mul-result : goal.overflow_mul-result
overflow_mul-result c = omega (arith, drop_product c.args.a c.args.e c.requires.0 c.requires.1)

pub returns : goal.returns
returns c = (refl, decrement_less c.args.a c.args.e c.requires.0 c.requires.1, decrement_le c.args.a c.args.e c.requires.0 c.requires.1)
