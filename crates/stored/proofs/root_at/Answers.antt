-- `root_at` meets its contract.
use Rattle.stored.specs.Stored.{root_in}
use mathlib.Core.Path.{refl}
use Rattle.stored.proofs.root_at.Goals as goal

pub returns : goal.returns
unfolding root_in
returns c = refl
