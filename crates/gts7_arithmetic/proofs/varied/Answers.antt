-- `varied` meets its contract.
use Rattle.gts7_arithmetic.specs.Gts7Arithmetic.{varied_of}
use mathlib.Core.Path.{refl}
use Rattle.gts7_arithmetic.proofs.varied.Goals as goal

pub returns : goal.returns
unfolding varied_of
returns c = refl
