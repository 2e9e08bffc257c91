-- `stopped` meets its contract.
use mathlib.Core.Path.{refl}
use Rattle.line_form.specs.Grammar.{stopped_of}
use Rattle.line_form.proofs.stopped.Goals as goal

pub returns : goal.returns
unfolding stopped_of
returns c = refl
