-- `unset` meets its contract.
use mathlib.Core.Path.{refl}
use Rattle.profile.specs.Curve.{unset_curve}
use Rattle.profile.proofs.curve.unset.Goals as goal

pub returns : goal.returns
unfolding unset_curve
returns c = refl
