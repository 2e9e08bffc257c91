-- `gtd7_known` meets its contract: refused, the row is kept; accepted, it is the eleven numbers.
use Rattle.std.specs.Prelude.{Err}
use Rattle.std.proofs.Common.{sym, ap, ◌∙◌, arith, rules}
use Rattle.std.proofs.lemmas.Result.{err_from_is_err_and}
use Rattle.refusals.specs.Refusals.{accepted_of}
use Rattle.known.specs.Known.{known_row}
use Rattle.known.proofs.Laws.{answer_known, accepted_length}
use Rattle.known.proofs.gtd7_known.Goals as goal

pub returns-in_err-answer_at : goal.returns-in_err-answer_at
unfolding known_row
returns-in_err-answer_at c =
    let p = err_from_is_err_and c.from_residual.result c.from_residual.ensures.1 in
    let is = answer_known _ _ _ _ _ _ c.only_known-filled.ensures c.in_err-answer_at.ensures in
    (p.1 ∙ ap Err p.2 ∙ is, simp (sym (ap accepted_of is)))

pub row_of-requires : goal.row_of-requires
row_of-requires c =
    let is = answer_known _ _ _ _ _ _ c.only_known-filled.ensures c.in_ok-answer_at.ensures in
    accepted_length _ _ _ _ (sym (ap accepted_of is))

pub returns : goal.returns
unfolding known_row
returns c =
    let filled = c.only_known-filled.ensures in
    let is = answer_known _ _ _ _ _ _ filled c.in_ok-answer_at.ensures in
    (is, rw (c.row_of.ensures, filled) (simp (sym (ap accepted_of is))))
