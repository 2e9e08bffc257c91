-- `row2` meets its contract.
use Rattle.legendre.specs.Legendre.{row2_of}
use mathlib.Core.Path.{refl}
use Rattle.legendre.proofs.row2.Goals as goal

pub returns : goal.returns
unfolding row2_of
returns c = refl
