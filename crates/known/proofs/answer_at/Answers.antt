-- `answer_at` meets its contract.
use mathlib.Core.Path.{ap, ◌∙◌}
use Rattle.std.specs.Prelude.{Err}
use borrow.Author.Tests.{eq-eqb, ne_eqb}
use Rattle.known.specs.Known.{filled_answer_at}
use Rattle.known.proofs.answer_at.Goals as goal

pub returns-then-len-ne11 : goal.returns-then-len-ne11
unfolding filled_answer_at
returns-then-len-ne11 c =
    ap Err c.at.ensures ∙ (simp (ne_eqb _ _ c.if-len-ne11.true))

pub returns : goal.returns
unfolding filled_answer_at
returns c =
    rw (c.filled_answer.ensures, c.counts-counted.ensures) (simp (eq-eqb _ _ c.if-len-ne11.false))
