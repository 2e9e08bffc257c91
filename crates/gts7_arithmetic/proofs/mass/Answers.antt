-- `mass` meets its contract.
use Rattle.gts7_arithmetic.specs.Gts7Arithmetic.{mass_of}
use mathlib.Core.Path.{refl}
use Rattle.gts7_arithmetic.proofs.mass.Goals as goal

pub returns : goal.returns
unfolding mass_of
returns c = refl
