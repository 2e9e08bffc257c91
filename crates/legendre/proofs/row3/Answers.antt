-- `row3` meets its contract.
use Rattle.legendre.specs.Legendre.{row3_of}
use mathlib.Core.Path.{refl}
use Rattle.legendre.proofs.row3.Goals as goal

pub returns : goal.returns
unfolding row3_of
returns c = refl
