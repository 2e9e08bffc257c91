-- `need_of` meets its contract.
use mathlib.Core.Path.{refl}
use Rattle.stored.specs.Stored.{need_of}
use Rattle.stored.proofs.need_of.Goals as goal

pub returns : goal.returns
unfolding need_of
returns c = refl
