-- `record_answer` meets its contract.
use Rattle.std.specs.Prelude.{Err, refl}
use Rattle.std.proofs.Common.{sym, ◌∙◌, ap}
use Rattle.std.proofs.lemmas.Result.{err_from_is_err_and}
use Rattle.acceptance.specs.Acceptance.{record_answer}
use Rattle.acceptance.proofs.record_answer.Goals as goal

pub returns-in_err-judge : goal.returns-in_err-judge
unfolding record_answer
returns-in_err-judge c =
    let p = err_from_is_err_and c.from_residual.result c.from_residual.ensures.1 in
    rw (p.1, p.2) (rw (sym c.in_err-judge.ensures) refl)

pub returns-then-unmixed : goal.returns-then-unmixed
unfolding record_answer
returns-then-unmixed c = ap Err c.at.ensures ∙ rw (sym c.in_ok-judge.ensures, sym c.mixing_on.ensures, sym c.unmixed.ensures ∙ c.if-unmixed.true) refl

pub returns : goal.returns
unfolding record_answer
returns c = rw (sym c.in_ok-judge.ensures, sym c.mixing_on.ensures, sym c.unmixed.ensures ∙ c.if-unmixed.false) refl
