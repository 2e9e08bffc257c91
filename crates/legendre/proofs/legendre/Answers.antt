-- `legendre` meets its contract.
use mathlib.Core.Path.{refl}
use Rattle.legendre.specs.Legendre.{legendre0_of, legendre1_of, legendre2_of, legendre3_of, legendre_of}
use Rattle.legendre.proofs.legendre.Goals as goal

pub returns : goal.returns
unfolding legendre0_of legendre1_of legendre2_of legendre3_of legendre_of
returns c = refl
