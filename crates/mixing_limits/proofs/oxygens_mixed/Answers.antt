-- `oxygens_mixed` meets its contract.
use mathlib.Core.Path.{refl}
use Rattle.mixing_limits.specs.Limits.{oxygens_mixed}
use Rattle.mixing_limits.proofs.oxygens_mixed.Goals as goal

pub returns : goal.returns
unfolding oxygens_mixed
returns c = refl
