-- `all_parts` meets its contract.
use mathlib.Core.Path.{refl}
use Rattle.stored_parts.specs.Parts.{all_parts}
use Rattle.stored_parts.proofs.all_parts.Goals as goal

pub returns : goal.returns
unfolding all_parts
returns c = refl
