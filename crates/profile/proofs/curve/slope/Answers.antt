-- `slope` meets its contract.
use mathlib.Core.Path.{refl}
use Rattle.profile.specs.Curve.{slope_of}
use Rattle.profile.proofs.curve.slope.Goals as goal

pub returns : goal.returns
unfolding slope_of
returns c = refl
