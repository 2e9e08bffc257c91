-- `here` meets its contract.
use borrow.Author.Tests.{lt-ltb, le-ltb}
use Rattle.line_form.specs.Grammar.{here_of}
use Rattle.line_form.proofs.here.Goals as goal

pub returns-then-k-s : goal.returns-then-k-s
unfolding here_of
returns-then-k-s c = simp (lt-ltb _ _ c.if-k-s.true)

pub returns : goal.returns
unfolding here_of
returns c = simp (le-ltb _ _ c.if-k-s.false)
