-- `reached` meets its contract.
use mathlib.Core.Path.{refl}
use Rattle.stored_parts.specs.Parts.{reached_of}
use Rattle.stored_parts.proofs.reached.Goals as goal

pub returns : goal.returns
unfolding reached_of
returns c = refl
