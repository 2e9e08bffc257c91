-- `end_of` meets its contract.
use mathlib.Core.Path.{refl}
use Rattle.spline.specs.Sweep.{sweep_end}
use Rattle.spline.proofs.sweep.end_of.Goals as goal

pub returns : goal.returns
unfolding sweep_end
returns c = refl
