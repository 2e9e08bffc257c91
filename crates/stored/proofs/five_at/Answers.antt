-- `five_at` meets its contract.
use Rattle.stored.specs.Stored.{five_in}
use mathlib.Core.Path.{refl}
use Rattle.stored.proofs.five_at.Goals as goal

pub returns : goal.returns
unfolding five_in
returns c = refl
