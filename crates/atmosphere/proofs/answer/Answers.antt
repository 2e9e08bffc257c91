-- `answer` meets its contract.
use mathlib.Core.Path.{ap, ◌∙◌}
use Rattle.std.specs.Prelude.{Err}
use borrow.Author.Tests.{eq-eqb, ne_eqb}
use Rattle.atmosphere.specs.Atmosphere.{answer_of}
use Rattle.atmosphere.proofs.answer.Goals as goal

pub returns-then-len-ne11 : goal.returns-then-len-ne11
unfolding answer_of
returns-then-len-ne11 c =
    ap Err c.at.ensures ∙ (simp (ne_eqb _ _ c.if-len-ne11.true))

pub returns : goal.returns
unfolding answer_of
returns c = simp (← c.record_answer.ensures) (simp (eq-eqb _ _ c.if-len-ne11.false))
