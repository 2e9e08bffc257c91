-- `gtd7` meets its contract: refused, the row is kept; accepted, it is the eleven numbers.
use Rattle.std.specs.Prelude.{Err}
use Rattle.std.proofs.Common.{sym, ap, ◌∙◌}
use Rattle.std.proofs.lemmas.Result.{err_from_is_err_and}
use Rattle.refusals.specs.Refusals.{accepted_of}
use Rattle.atmosphere.proofs.Laws.{accepted_length, row_kept, row_written}
use Rattle.atmosphere.proofs.gtd7.Goals as goal

pub returns-in_err-answer : goal.returns-in_err-answer
returns-in_err-answer c =
    let p = err_from_is_err_and c.from_residual.result c.from_residual.ensures.1 in
    (p.1 ∙ ap Err p.2 ∙ c.in_err-answer.ensures, row_kept _ _ _ (sym (ap accepted_of c.in_err-answer.ensures)))

pub row_of-requires : goal.row_of-requires
row_of-requires c = accepted_length _ _ _ (sym (ap accepted_of c.in_ok-answer.ensures))

pub returns : goal.returns
returns c = (c.in_ok-answer.ensures, c.row_of.ensures ∙ row_written _ _ _ (sym (ap accepted_of c.in_ok-answer.ensures)))
