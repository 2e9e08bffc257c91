-- `closed` meets its contract.
use Rattle.line_form.specs.Grammar.{closed_of}
use Rattle.line_form.proofs.closed.Goals as goal

pub returns : goal.returns
unfolding closed_of
returns c = simp (← c.starts-there.ensures)
