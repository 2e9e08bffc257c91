-- `known_at` meets its contract.
use mathlib.Core.Path.{refl}
use Rattle.known_record.specs.KnownRecord.{known_at}
use Rattle.known_record.proofs.known_at.Goals as goal

pub returns : goal.returns
unfolding known_at
returns c = refl
