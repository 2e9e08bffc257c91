-- `left` meets its contract.
use mathlib.Core.Path.{refl}
use Rattle.logs.proofs.left.Goals as goal

pub returns : goal.returns
returns c = refl
