-- `passes` meets its contract.
use mathlib.Core.Path.{refl}
use Rattle.crossings_list.specs.CrossingsList.{passes_of}
use Rattle.crossings_list.proofs.passes.Goals as goal

pub returns : goal.returns
unfolding passes_of
returns c = refl
