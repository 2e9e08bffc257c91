-- `local_time_part` meets its contract.
use Rattle.terms.specs.Terms.{local_time_part_of}
use mathlib.Core.Path.{refl}
use Rattle.terms.proofs.local_time_part.Goals as goal

pub returns : goal.returns
unfolding local_time_part_of
returns c = refl
