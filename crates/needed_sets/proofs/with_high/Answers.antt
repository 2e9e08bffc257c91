-- `with_high` meets its contract.
use mathlib.Core.Path.{refl}
use Rattle.needed_sets.specs.NeededSets.{with_high}
use Rattle.needed_sets.proofs.with_high.Goals as goal

pub returns : goal.returns
unfolding with_high
returns c = refl
