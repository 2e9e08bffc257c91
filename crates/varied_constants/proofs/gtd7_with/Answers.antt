-- `gtd7_with` meets its contract: refused, the row is kept; accepted, it is the eleven numbers.
use Rattle.std.specs.Prelude.{Err}
use Rattle.std.proofs.Common.{sym, ap, ◌∙◌, arith, rules}
use Rattle.std.proofs.lemmas.Result.{err_from_is_err_and}
use Rattle.refusals.specs.Refusals.{accepted_of}
use Rattle.varied_constants.proofs.Laws.{length_with, mass_with, row_kept, row_written}
use Rattle.varied_constants.proofs.gtd7_with.Goals as goal

pub returns-in_err-answer_with : goal.returns-in_err-answer_with
returns-in_err-answer_with c =
    let p = err_from_is_err_and c.from_residual.result c.from_residual.ensures.1 in
    (p.1 ∙ ap Err p.2 ∙ c.in_err-answer_with.ensures, row_kept _ _ _ _ (sym (ap accepted_of c.in_err-answer_with.ensures)))

pub row_with-requires : goal.row_with-requires
row_with-requires c =
    let h = sym (ap accepted_of c.in_ok-answer_with.ensures) in
    (length_with _ _ _ _ h, mass_with _ _ _ _ h)

pub returns : goal.returns
returns c = (c.in_ok-answer_with.ensures, c.row_with.ensures ∙ row_written _ _ _ _ (sym (ap accepted_of c.in_ok-answer_with.ensures)))
