-- `shape_of` meets its contract.
use Rattle.gts7_arithmetic.specs.Gts7Arithmetic.{shape_of}
use mathlib.Core.Path.{refl}
use Rattle.gts7_arithmetic.proofs.shape_of.Goals as goal

pub returns : goal.returns
unfolding shape_of
returns c = refl
