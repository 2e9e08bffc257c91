-- `descent` meets its contract.
use Rattle.std.specs.Prelude.{Err}
use Rattle.std.proofs.Common.{sym, ap, ◌∙◌, arith, rules}
use Rattle.std.proofs.lemmas.Result.{err_from_is_err_and}
use Rattle.refusals.specs.Refusals.{accepted_of}
use mir.Syntax.{w64}
use mir.Facts.{to_z-of_z}
use Rattle.std.specs.Prelude.{Ok}
use Rattle.descent.specs.Theorems.{checked_met}
use Rattle.descent.proofs.Laws.{refused, answered}
use Rattle.descent.proofs.descent.Goals as goal

pub returns-in_err-checked : goal.returns-in_err-checked
returns-in_err-checked c =
    let p = err_from_is_err_and c.from_residual.result c.from_residual.ensures.1 in
    let A = c.args in
    let k = refused A.w A.n A.start A.settings.now A.losses.now _ c.unit_row-v.ensures _ (to_z-of_z {w = w64} {z = A.start} (search rules)) _ c.in_err-checked.ensures in
    (p.1 ∙ ap Err p.2 ∙ k.0, k.1)

pub flown-requires : goal.flown-requires
flown-requires c =
    let p = checked_met _ _ _ _ _ (sym c.in_ok-checked.ensures) in
    (p.0, p.1.within, p.1.fits)

pub returns : goal.returns
returns c =
    let A = c.args in
    answered A.w A.n A.start A.settings.now A.losses.now _ c.unit_row-v.ensures _ (to_z-of_z {w = w64} {z = A.start} (search rules)) _
    c.in_ok-checked.ensures _ _ c.flown.ensures
