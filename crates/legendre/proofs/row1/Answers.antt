-- `row1` meets its contract.
use Rattle.legendre.specs.Legendre.{row1_of}
use mathlib.Core.Path.{refl}
use Rattle.legendre.proofs.row1.Goals as goal

pub returns : goal.returns
unfolding row1_of
returns c = refl
