-- `zeta` meets its contract.
use mathlib.Core.Path.{refl}
use Rattle.profile.specs.Gravity.{zeta_of}
use Rattle.profile.proofs.gravity.zeta.Goals as goal

pub returns : goal.returns
unfolding zeta_of
returns c = refl
