-- `altitude_answer` meets its contract.
use mathlib.Core.Path.{ap, ◌∙◌}
use Rattle.std.specs.Prelude.{Err}
use native.Mathlib.Omega.{arith}
use borrow.Author.Tests.{eq-eqb, ne_eqb}
use Rattle.station_answer.specs.Answers.{altitude_answer}
use Rattle.station_answer.proofs.altitude_answer.Goals as goal

pub returns-then-len-ne11 : goal.returns-then-len-ne11
unfolding altitude_answer
returns-then-len-ne11 c =
    ap Err c.at.ensures ∙ (simp (ne_eqb _ _ c.if-len-ne11.true))

pub returns-then-ints-ne27 : goal.returns-then-ints-ne27
unfolding altitude_answer
returns-then-ints-ne27 c =
    ap Err c.at-then-ints-ne27.ensures ∙ (simp (eq-eqb _ _ c.if-len-ne11.false, ne_eqb _ _ c.if-ints-ne27.true))

pub returns-then-count-ne259 : goal.returns-then-count-ne259
unfolding altitude_answer
returns-then-count-ne259 c =
    ap Err c.at-then-count-ne259.ensures ∙ (simp (eq-eqb _ _ c.if-len-ne11.false, eq-eqb _ _ c.if-ints-ne27.false, ne_eqb _ _ c.if-count-ne259.true))

pub returns-then-not-finite : goal.returns-then-not-finite
unfolding altitude_answer
returns-then-not-finite c =
    ap Err c.at-then-not-finite.ensures ∙ (simp (← c.finite.ensures, eq-eqb _ _ c.if-len-ne11.false, eq-eqb _ _ c.if-ints-ne27.false, eq-eqb _ _ c.if-count-ne259.false)
    (simp c.if-not-finite.true-raw))

pub returns-then-not-day_in : goal.returns-then-not-day_in
unfolding altitude_answer
returns-then-not-day_in c =
    ap Err c.at-then-not-day_in.ensures ∙ (simp (← c.day_in.ensures, ← c.finite.ensures, eq-eqb _ _ c.if-len-ne11.false, eq-eqb _ _ c.if-ints-ne27.false, eq-eqb _ _ c.if-count-ne259.false)
    (simp (c.if-not-day_in.true-raw, c.if-not-finite.false-raw)))

pub returns-then-not-within : goal.returns-then-not-within
unfolding altitude_answer
returns-then-not-within c =
    ap Err c.at-then-not-within.ensures ∙ (simp (← c.within.ensures, ← c.day_in.ensures, ← c.finite.ensures, eq-eqb _ _ c.if-len-ne11.false, eq-eqb _ _ c.if-ints-ne27.false, eq-eqb _ _ c.if-count-ne259.false)
    (simp (c.if-not-within.true-raw, c.if-not-day_in.false-raw, c.if-not-finite.false-raw)))

pub one_in-on-requires : goal.one_in-on-requires
one_in-on-requires c = let e = c.if-ints-ne27.false in omega (arith, e)

pub returns-then-unmixed : goal.returns-then-unmixed
unfolding altitude_answer
returns-then-unmixed c =
    ap Err c.at-then-unmixed.ensures ∙ (simp (← c.unmixed.ensures, ← c.one_in-on.ensures, ← c.within.ensures, ← c.day_in.ensures, ← c.finite.ensures, eq-eqb _ _ c.if-len-ne11.false, eq-eqb _ _ c.if-ints-ne27.false, eq-eqb _ _ c.if-count-ne259.false)
    (simp (c.if-unmixed.true, c.if-not-within.false-raw, c.if-not-day_in.false-raw, c.if-not-finite.false-raw)))

pub returns : goal.returns
unfolding altitude_answer
returns c =
    simp (← c.unmixed.ensures, ← c.one_in-on.ensures, ← c.within.ensures, ← c.day_in.ensures, ← c.finite.ensures, eq-eqb _ _ c.if-len-ne11.false, eq-eqb _ _ c.if-ints-ne27.false, eq-eqb _ _ c.if-count-ne259.false)
    (simp (c.if-unmixed.false, c.if-not-within.false-raw, c.if-not-day_in.false-raw, c.if-not-finite.false-raw))
