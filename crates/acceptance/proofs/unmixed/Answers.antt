-- `unmixed` meets its contract.
use mathlib.Core.Path.{refl}
use Rattle.acceptance.specs.Acceptance.{unmixed_of}
use Rattle.acceptance.proofs.unmixed.Goals as goal

pub returns : goal.returns
unfolding unmixed_of
returns c = refl
