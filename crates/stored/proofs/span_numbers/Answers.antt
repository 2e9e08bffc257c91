-- `span_numbers` meets its contract.
use Rattle.stored.specs.Stored.{span_numbers}
use mathlib.Core.Path.{refl}
use Rattle.stored.proofs.span_numbers.Goals as goal

pub returns : goal.returns
unfolding span_numbers
returns c = refl
