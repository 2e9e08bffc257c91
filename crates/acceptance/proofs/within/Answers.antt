-- `within` meets its contract.
use Rattle.acceptance.specs.Acceptance.{within_of}
use mathlib.Core.Path.{refl}
use Rattle.acceptance.proofs.within.Goals as goal

pub returns : goal.returns
unfolding within_of
returns c = refl
