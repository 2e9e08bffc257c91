-- `crossings` meets its contract.
use Rattle.std.specs.Prelude.{Err}
use Rattle.std.proofs.Common.{sym, ap, ◌∙◌, arith, rules}
use Rattle.std.proofs.lemmas.Result.{err_from_is_err_and}
use Rattle.refusals.specs.Refusals.{accepted_of}
use Rattle.std.specs.Prelude.{refl}
use Rattle.crossings.proofs.Theorems.{checked_few}
use Rattle.crossings.proofs.Laws.{checked_altitudes, refused, answered}
use Rattle.crossings.proofs.crossings.Goals as goal

pub returns-in_err-checked : goal.returns-in_err-checked
returns-in_err-checked c =
    let p = err_from_is_err_and c.from_residual.result c.from_residual.ensures.1 in
    let A = c.args in
    let k = refused A.w A.n A.alts.now A.level A.list.now _ c.in_err-checked.ensures in
    (p.1 ∙ ap Err p.2 ∙ k.0, k.1)

pub densities-requires : goal.densities-requires
densities-requires c =
    let t = sym (ap accepted_of c.in_ok-checked.ensures) in
    (checked_few _ _ _ t, checked_altitudes _ _ _ t)

pub slice_bounds-listed-end : goal.slice_bounds-listed-end
slice_bounds-listed-end c = omega (arith, checked_few _ _ _ (sym (ap accepted_of c.in_ok-checked.ensures)))

pub returns : goal.returns
returns c =
    let A = c.args in
    answered A.w A.n A.alts.now A.level A.list.now c.listed.result _ _ _ _ (sym (ap accepted_of c.in_ok-checked.ensures))
    c.densities.ensures refl c.listed.ensures.0 c.listed.ensures.1
