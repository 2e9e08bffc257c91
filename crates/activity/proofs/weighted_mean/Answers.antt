-- `weighted_mean` meets its contract.
use Rattle.activity.specs.Activity.{weighted_mean_of}
use mathlib.Core.Path.{refl}
use Rattle.activity.proofs.weighted_mean.Goals as goal

pub returns : goal.returns
unfolding weighted_mean_of
returns c = refl
