-- `judge_all` meets its contract.
use Rattle.std.specs.Prelude.{refl}
use Rattle.std.proofs.Common.{sym, ◌∙◌}
use Rattle.std.proofs.lemmas.Result.{err_from_is_err_and}
use Rattle.altitudes.specs.Altitudes.{judged_all_of}
use Rattle.altitudes.proofs.judge_all.Goals as goal

pub returns-in_err-judge : goal.returns-in_err-judge
unfolding judged_all_of
returns-in_err-judge c =
    let p = err_from_is_err_and c.from_residual.result c.from_residual.ensures.1 in
    rw (p.1, p.2) (rw (sym c.with_alt.ensures, sym c.in_err-judge.ensures) refl)

pub returns-in_err-altitudes : goal.returns-in_err-altitudes
unfolding judged_all_of
returns-in_err-altitudes c =
    let p = err_from_is_err_and c.from_residual-in_err-altitudes.result c.from_residual-in_err-altitudes.ensures.1 in
    rw (p.1, p.2) (rw (sym c.with_alt.ensures, sym c.in_ok-judge.ensures, sym c.in_err-altitudes.ensures) refl)

pub returns : goal.returns
unfolding judged_all_of
returns c =
    c.unmixed_altitude.ensures ∙ rw (sym c.with_alt.ensures, sym c.in_ok-judge.ensures, sym c.in_ok-altitudes.ensures, sym c.mixing_on.ensures) refl
