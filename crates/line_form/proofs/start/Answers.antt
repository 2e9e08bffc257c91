-- `start` meets its contract.
use mathlib.Core.Path.{refl}
use Rattle.line_form.specs.Grammar.{start_of}
use Rattle.line_form.proofs.start.Goals as goal

pub returns : goal.returns
unfolding start_of
returns c = refl
