-- `checked` meets its contract.
use Rattle.std.specs.Prelude.{Err}
use Rattle.std.proofs.Common.{sym, ap, ◌∙◌, arith, rules}
use Rattle.std.proofs.lemmas.Result.{err_from_is_err_and}
use Rattle.refusals.specs.Refusals.{accepted_of}
use Rattle.std.specs.Prelude.{refl}
use mir.Syntax.{w64}
use mir.Facts.{to_z-of_z}
use Rattle.descent_orbits.specs.DescentOrbits.{descent_refusal}
use Rattle.descent.specs.Descent.{descent_checked}
use Rattle.descent.proofs.checked.Goals as goal

pub returns-in_err-judge : goal.returns-in_err-judge
unfolding descent_checked
returns-in_err-judge c =
    let p = err_from_is_err_and c.from_residual.result c.from_residual.ensures.1 in
    rw (p.1, p.2) (rw (sym c.with_alt.ensures, sym c.in_err-judge.ensures) refl)

pub returns : goal.returns
unfolding descent_checked
returns c =
    let A = c.args in
    c.refusal.ensures ∙ ap (λ z. descent_refusal z A.settings.now A.room) (to_z-of_z {w = w64} {z = A.start} (search rules)) ∙ rw (sym c.with_alt.ensures, sym c.in_ok-judge.ensures) refl
