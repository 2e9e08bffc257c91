-- `nine_of` meets its contract.
use mathlib.Core.Path.{refl}
use Rattle.host_record.specs.Nine.{nine_of}
use Rattle.host_record.proofs.nine.nine_of.Goals as goal

pub returns : goal.returns
unfolding nine_of
returns c = refl
