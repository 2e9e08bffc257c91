-- `natural_exponential::risen` meets its contract. Assumes nothing.
use mathlib.Core.Path.{refl}
use native.Mathlib.Omega.{arith}
use Rattle.natural_exponential.specs.Exp.{times_of}
use Rattle.natural_exponential.proofs.Reduce.{Reduced, risen}
use Rattle.natural_exponential.proofs.risen.Goals as goal

laws : (c : goal.Start) → Reduced 0 c.args.m (times_of c.args.m)
laws c = risen c.args.m c.requires

pub overflow_mul-t : goal.overflow_mul-t
overflow_mul-t c = omega (arith, (laws c).few)

pub overflow_sub-t : goal.overflow_sub-t
overflow_sub-t c = omega (arith, (laws c).some)

pub overflow_mul-t-2 : goal.overflow_mul-t-2
overflow_mul-t-2 c = omega (arith, (laws c).small)

pub overflow_mul-t-3 : goal.overflow_mul-t-3
overflow_mul-t-3 c = omega (arith, (laws c).few)

pub overflow_sub-t-2 : goal.overflow_sub-t-2
overflow_sub-t-2 c = omega (arith, (laws c).more refl)

pub overflow_add-result : goal.overflow_add-result
overflow_add-result c = omega (arith, (laws c).few)

pub returns : goal.returns
returns c = (refl, refl, (laws c).inside, omega arith, omega (arith, (laws c).fewer refl))
