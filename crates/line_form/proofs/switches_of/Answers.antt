-- `switches_of` meets its contract: the copy is the part of the numbers.
use mathlib.Core.Path.{◌∙◌}
use native.Mathlib.Omega.{arith}
use Rattle.line_form.specs.Grammar.{switches_of}
use Rattle.line_form.proofs.Laws.{part_is}
use Rattle.line_form.proofs.switches_of.Goals as goal

pub returns : goal.returns
unfolding switches_of
returns c = c.copy_from_slice.ensures.after ∙ part_is c.args.r.values 24 17 (omega arith)
