-- `gtd7_column` meets its contract.
use Rattle.std.specs.Prelude.{Err}
use Rattle.std.proofs.Common.{sym, ap, ◌∙◌, arith, rules}
use Rattle.std.proofs.lemmas.Result.{err_from_is_err_and}
use Rattle.refusals.specs.Refusals.{accepted_of}
use Rattle.std.proofs.Common.{ltb-false}
use Rattle.altitudes.proofs.Laws.{accepted_room, accepted_altitudes}
use Rattle.column.proofs.Laws.{kept, written}
use Rattle.column.proofs.gtd7_column.Goals as goal

pub returns-in_err-column_answer : goal.returns-in_err-column_answer
returns-in_err-column_answer c =
    let p = err_from_is_err_and c.from_residual.result c.from_residual.ensures.1 in
    (p.1 ∙ ap Err p.2 ∙ c.in_err-column_answer.ensures, kept _ _ _ _ (sym (ap accepted_of c.in_err-column_answer.ensures)))

pub rows-requires : goal.rows-requires
rows-requires c =
    let fit = sym (ap accepted_of c.in_ok-column_answer.ensures) in
    (ltb-false _ _ (accepted_room _ _ _ _ fit), accepted_altitudes _ _ _ _ fit)

pub returns : goal.returns
returns c = (c.in_ok-column_answer.ensures, c.rows.ensures ∙ written _ _ _ _ (sym (ap accepted_of c.in_ok-column_answer.ensures)))
