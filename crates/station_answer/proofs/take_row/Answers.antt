-- `take_row` meets its contract.
use Rattle.std.specs.Prelude.{Err}
use Rattle.std.proofs.Common.{sym, ap, ◌∙◌}
use Rattle.std.proofs.lemmas.Result.{err_from_is_err_and}
use Rattle.refusals.specs.Refusals.{accepted_of}
use Rattle.station_answer.proofs.Laws.{row_refused, row_taken_lem}
use Rattle.station_answer.proofs.take_row.Goals as goal

pub returns-in_err-judge : goal.returns-in_err-judge
returns-in_err-judge c =
    let p = err_from_is_err_and c.from_residual.result c.from_residual.ensures.1 in
    (p.1 ∙ ap Err p.2 ∙ c.in_err-judge.ensures, row_refused _ _ _ (sym (ap accepted_of c.in_err-judge.ensures)))

pub returns : goal.returns
returns c = (c.in_ok-judge.ensures, row_taken_lem _ _ _ _ (sym (ap accepted_of c.in_ok-judge.ensures)) c.put_whole.ensures)
