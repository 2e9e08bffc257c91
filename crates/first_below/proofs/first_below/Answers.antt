-- `first_below` meets its contract.
use Rattle.std.specs.Prelude.{Err}
use Rattle.std.proofs.Common.{sym, ap, ◌∙◌, arith, rules}
use Rattle.std.proofs.lemmas.Result.{err_from_is_err_and}
use Rattle.refusals.specs.Refusals.{accepted_of}
use Rattle.first_below.proofs.Laws.{checked_row, refused, answered}
use Rattle.first_below.proofs.first_below.Goals as goal

pub returns-in_err-checked : goal.returns-in_err-checked
returns-in_err-checked c =
    let p = err_from_is_err_and c.from_residual.result c.from_residual.ensures.1 in
    let A = c.args in
    let k = refused A.w A.n A.alts.now A.level A.row.now _ c.in_err-checked.ensures in
    (p.1 ∙ ap Err p.2 ∙ k.0, k.1)

pub first-requires : goal.first-requires
first-requires c = checked_row _ _ _ _ (sym (ap accepted_of c.in_ok-checked.ensures))

pub returns : goal.returns
returns c =
    let A = c.args in
    answered A.w A.n A.alts.now A.level A.row.now _ _ (sym (ap accepted_of c.in_ok-checked.ensures)) c.first.ensures.0 c.first.ensures.1
