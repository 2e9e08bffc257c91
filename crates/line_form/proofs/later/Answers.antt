-- `later` meets its contract.
use Rattle.line_form.specs.Grammar.{later_of}
use Rattle.line_form.proofs.later.Goals as goal

pub returns-then-a : goal.returns-then-a
unfolding later_of
returns-then-a c = simp c.if-a.true

pub returns : goal.returns
unfolding later_of
returns c = simp c.if-a.false
