-- `no_parts` meets its contract.
use mathlib.Core.Path.{refl}
use Rattle.stored_parts.specs.Parts.{no_parts}
use Rattle.stored_parts.proofs.no_parts.Goals as goal

pub returns : goal.returns
unfolding no_parts
returns c = refl
