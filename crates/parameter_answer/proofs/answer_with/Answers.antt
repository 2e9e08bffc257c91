-- `answer_with` meets its contract.
use Rattle.std.specs.Prelude.{Err, refl}
use Rattle.std.proofs.Common.{sym, ◌∙◌, ap, eq-eqb}
use Rattle.std.proofs.lemmas.Bool.{ne_eqb}
use Rattle.std.proofs.lemmas.Result.{err_from_is_err_and}
use Rattle.parameter_answer.specs.ParameterAnswer.{answer_with}
use Rattle.parameter_answer.proofs.Nine.{is_one, is_none}
use Rattle.parameter_answer.proofs.answer_with.Goals as goal

pub returns-in-Some : goal.returns-in-Some
unfolding answer_with
returns-in-Some c =
    let at = is_one _ _ (sym c.first_unfit.ensures ∙ c.in-Some.is) in
    ap Err c.at.ensures ∙ rw (at.0, at.1) refl

pub returns-then-len-ne11 : goal.returns-then-len-ne11
unfolding answer_with
returns-then-len-ne11 c = ap Err c.at-then-len-ne11.ensures ∙ rw (is_none _ (sym c.first_unfit.ensures ∙ c.in_default.is), ne_eqb _ _ c.if-len-ne11.true) refl

pub returns-in_err-judge : goal.returns-in_err-judge
unfolding answer_with
returns-in_err-judge c =
    let p = err_from_is_err_and c.from_residual.result c.from_residual.ensures.1 in
    rw (p.1, p.2) (rw (is_none _ (sym c.first_unfit.ensures ∙ c.in_default.is), eq-eqb _ _ c.if-len-ne11.false, sym c.in_err-judge.ensures) refl)

pub returns-then-unmixed_with : goal.returns-then-unmixed_with
unfolding answer_with
returns-then-unmixed_with c =
    ap Err c.at-then-unmixed_with.ensures
    ∙ rw (is_none _ (sym c.first_unfit.ensures ∙ c.in_default.is), eq-eqb _ _ c.if-len-ne11.false, sym c.in_ok-judge.ensures, sym c.mixing_on.ensures, sym c.unmixed_with.ensures ∙ c.if-unmixed_with.true) refl

pub returns : goal.returns
unfolding answer_with
returns c =
    rw (is_none _ (sym c.first_unfit.ensures ∙ c.in_default.is), eq-eqb _ _ c.if-len-ne11.false, sym c.in_ok-judge.ensures, sym c.mixing_on.ensures, sym c.unmixed_with.ensures ∙ c.if-unmixed_with.false) refl
