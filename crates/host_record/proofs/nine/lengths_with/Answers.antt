-- `lengths_with` meets its contract.
use Rattle.std.specs.Prelude.{Err, refl}
use Rattle.std.proofs.Common.{sym, ◌∙◌, ap, eq-eqb}
use Rattle.std.proofs.lemmas.Bool.{ne_eqb}
use Rattle.parameter_answer.specs.ParameterAnswer.{among_nine}
use Rattle.parameter_answer.proofs.Nine.{is_one, is_none}
use Rattle.host_record.specs.Nine.{lengths_with}
use Rattle.host_record.proofs.nine.lengths_with.Goals as goal

pub returns-then-nine-ne9 : goal.returns-then-nine-ne9
unfolding lengths_with
returns-then-nine-ne9 c = ap Err c.at.ensures ∙ rw (ne_eqb _ _ c.if-nine-ne9.true) refl

pub returns-in-Some : goal.returns-in-Some
unfolding lengths_with
returns-in-Some c =
    let at = is_one _ _ (sym c.first_unfit.ensures ∙ c.in-Some.is) in
    ap Err c.at-in-Some.ensures ∙ rw (eq-eqb _ _ c.if-nine-ne9.false, sym c.nine_of.ensures, at.0, at.1) refl

pub returns-then-len-ne11 : goal.returns-then-len-ne11
unfolding lengths_with
returns-then-len-ne11 c =
    ap Err c.at-then-len-ne11.ensures
    ∙ rw (eq-eqb _ _ c.if-nine-ne9.false, sym c.nine_of.ensures, is_none _ (sym c.first_unfit.ensures ∙ c.in_default.is), ne_eqb _ _ c.if-len-ne11.true) refl

pub returns : goal.returns
unfolding lengths_with
returns c =
    c.lengths.ensures
    ∙ rw (eq-eqb _ _ c.if-nine-ne9.false, sym c.nine_of.ensures, is_none _ (sym c.first_unfit.ensures ∙ c.in_default.is), eq-eqb _ _ c.if-len-ne11.false) refl
