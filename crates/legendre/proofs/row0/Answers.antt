-- `row0` meets its contract.
use Rattle.legendre.specs.Legendre.{row0_of}
use mathlib.Core.Path.{refl}
use Rattle.legendre.proofs.row0.Goals as goal

pub returns : goal.returns
unfolding row0_of
returns c = refl
