-- `circular_functions::reduced` meets its contract. Assumes nothing.
use native.Mathlib.Omega.{arith}
use Rattle.circular_functions.proofs.TrigBound.{quarters_few, left_some, left_fits, left_more, left_in}
use Rattle.circular_functions.proofs.reduced.Goals as goal

pub overflow_mul-t : goal.overflow_mul-t
overflow_mul-t c = omega (arith, quarters_few c.args.m c.requires.0)

pub overflow_sub-t : goal.overflow_sub-t
overflow_sub-t c = left_some c.args.m c.requires.0

pub overflow_mul-t-2 : goal.overflow_mul-t-2
overflow_mul-t-2 c = omega (arith, left_fits c.args.m c.requires.0)

pub overflow_mul-t-3 : goal.overflow_mul-t-3
overflow_mul-t-3 c = omega (arith, quarters_few c.args.m c.requires.0)

pub overflow_sub-t-2 : goal.overflow_sub-t-2
overflow_sub-t-2 c = left_more c.args.m c.requires.0

pub overflow_add-n-2 : goal.overflow_add-n-2
overflow_add-n-2 c = omega (arith, quarters_few c.args.m c.requires.0, c.requires.1)

pub sinusoid-requires : goal.sinusoid-requires
sinusoid-requires c = (omega (arith, quarters_few c.args.m c.requires.0, c.requires.1), left_in c.args.m c.requires.0)
