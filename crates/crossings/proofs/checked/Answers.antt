-- `checked` meets its contract.
use Rattle.std.specs.Prelude.{Err}
use Rattle.std.proofs.Common.{sym, ap, ◌∙◌, arith, rules}
use Rattle.std.proofs.lemmas.Result.{err_from_is_err_and}
use Rattle.refusals.specs.Refusals.{accepted_of}
use Rattle.crossings.proofs.Laws.{column_refused, no_rise, rising}
use Rattle.crossings.proofs.checked.Goals as goal

pub returns-in_err-column_answer : goal.returns-in_err-column_answer
returns-in_err-column_answer c =
    let p = err_from_is_err_and c.from_residual.result c.from_residual.ensures.1 in
    p.1 ∙ ap Err p.2 ∙ column_refused _ _ _ _ c.in_err-column_answer.ensures

pub returns-then-k-alts : goal.returns-then-k-alts
returns-then-k-alts c = ap Err c.at.ensures ∙ no_rise _ _ _ _ c.in_ok-column_answer.ensures _ c.rises-k.ensures c.if-k-alts.true

pub returns : goal.returns
returns c = rising _ _ _ _ c.in_ok-column_answer.ensures _ c.rises-k.ensures c.if-k-alts.false
