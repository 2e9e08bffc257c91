-- `digit` meets its contract.
use borrow.Author.Tests.{lt-ltb, le-ltb, lt-leb, le-leb}
use Rattle.line_form.specs.Grammar.{digit_of}
use Rattle.line_form.proofs.digit.Goals as goal

pub returns-then-k-s-clause-value : goal.returns-then-k-s-clause-value
unfolding digit_of
returns-then-k-s-clause-value c = simp (le-ltb _ _ c.if-k-s.true)

pub returns-then-b-lt48-clause-value : goal.returns-then-b-lt48-clause-value
unfolding digit_of
returns-then-b-lt48-clause-value c = simp (lt-ltb _ _ c.if-k-s.false, lt-leb _ _ c.if-b-lt48.true)

pub returns-then-b-gt57-clause-value : goal.returns-then-b-gt57-clause-value
unfolding digit_of
returns-then-b-gt57-clause-value c = simp (lt-ltb _ _ c.if-k-s.false, le-leb _ _ c.if-b-lt48.false, lt-leb _ _ c.if-b-gt57.true)

pub returns-clause-value : goal.returns-clause-value
unfolding digit_of
returns-clause-value c = simp (lt-ltb _ _ c.if-k-s.false, le-leb _ _ c.if-b-lt48.false, le-leb _ _ c.if-b-gt57.false)
