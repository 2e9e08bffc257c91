-- `either_parts` meets its contract.
use mathlib.Core.Path.{refl}
use Rattle.stored_parts.specs.Parts.{either_parts}
use Rattle.stored_parts.proofs.either_parts.Goals as goal

pub returns : goal.returns
unfolding either_parts
returns c = refl
