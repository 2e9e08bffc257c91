-- `flat` meets its contract.
use Rattle.legendre.specs.Legendre.{flat_of}
use mathlib.Core.Path.{refl}
use Rattle.legendre.proofs.flat.Goals as goal

pub returns : goal.returns
unfolding flat_of
returns c = refl
