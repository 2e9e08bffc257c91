-- `station_answer` meets its contract.
use Rattle.std.specs.Prelude.{Err}
use mathlib.Core.Path.{ap, ◌∙◌}
use borrow.Author.Tests.{eq-eqb, ne_eqb}
use Rattle.acceptance.specs.Acceptance.{judged_of}
use Rattle.station_answer.specs.Answers.{station_answer}
use Rattle.station_answer.proofs.station_answer.Goals as goal

pub returns-then-ints-ne27 : goal.returns-then-ints-ne27
unfolding station_answer
returns-then-ints-ne27 c =
    ap Err c.at.ensures ∙ (simp (ne_eqb _ _ c.if-ints-ne27.true))

pub returns-then-count-ne259 : goal.returns-then-count-ne259
unfolding station_answer
returns-then-count-ne259 c =
    ap Err c.at-then-count-ne259.ensures ∙ (simp (eq-eqb _ _ c.if-ints-ne27.false, ne_eqb _ _ c.if-count-ne259.true))

pub returns : goal.returns
unfolding station_answer
returns c =
    simp (eq-eqb _ _ c.if-ints-ne27.false, eq-eqb _ _ c.if-count-ne259.false) (c.judge.ensures ∙ ap (judged_of c.args.w) c.with_alt.ensures)
