-- `mixed_at` meets its contract.
use mathlib.Core.Path.{refl}
use Rattle.mixing_limits.specs.Limits.{mixed_at}
use Rattle.mixing_limits.proofs.mixed_at.Goals as goal

pub returns : goal.returns
unfolding mixed_at
returns c = refl
