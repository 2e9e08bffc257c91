-- `mean` meets its contract.
use Rattle.gts7_arithmetic.specs.Gts7Arithmetic.{mean_of}
use mathlib.Core.Path.{refl}
use Rattle.gts7_arithmetic.proofs.mean.Goals as goal

pub returns : goal.returns
unfolding mean_of
returns c = refl
