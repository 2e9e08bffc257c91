-- `natural_exponential::fallen` meets its contract. Assumes nothing.
use mathlib.Core.Path.{refl}
use Prim.Native.Nat.{◌+◌}
use native.Mathlib.Omega.{arith}
use Rattle.natural_exponential.specs.Exp.{times_of}
use Rattle.natural_exponential.proofs.Reduce.{Reduced, fallen}
use Rattle.natural_exponential.proofs.fallen.Goals as goal

laws : (c : goal.Start) → Reduced 1 c.args.m (times_of c.args.m + 1)
laws c = fallen c.args.m c.requires

pub overflow_add-n : goal.overflow_add-n
overflow_add-n c = omega (arith, (laws c).few)

pub overflow_mul-t : goal.overflow_mul-t
overflow_mul-t c = omega (arith, (laws c).few)

pub overflow_add-t : goal.overflow_add-t
overflow_add-t c = omega (arith, (laws c).few)

pub overflow_sub-t : goal.overflow_sub-t
overflow_sub-t c = omega (arith, (laws c).some)

pub overflow_mul-t-2 : goal.overflow_mul-t-2
overflow_mul-t-2 c = omega (arith, (laws c).small)

pub overflow_mul-t-3 : goal.overflow_mul-t-3
overflow_mul-t-3 c = omega (arith, (laws c).few)

pub overflow_add-t-2 : goal.overflow_add-t-2
overflow_add-t-2 c = omega (arith, (laws c).small)

pub overflow_sub-result : goal.overflow_sub-result
overflow_sub-result c = omega (arith, (laws c).few)

pub returns : goal.returns
returns c = (refl, refl, (laws c).inside, omega (arith, (laws c).few), omega arith)
