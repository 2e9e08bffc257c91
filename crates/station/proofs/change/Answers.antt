-- `change` meets its contract.
use Rattle.std.specs.Prelude.{Err}
use Rattle.std.proofs.Common.{sym, ap, ◌∙◌, arith, rules}
use Rattle.std.proofs.lemmas.Result.{err_from_is_err_and}
use Rattle.refusals.specs.Refusals.{accepted_of}
use Rattle.std.specs.Prelude.{true, false, cond}
use Rattle.station_answer.specs.Answers.{change_of}
use Rattle.station.specs.Station.{filled_of, refilled_by}
use Rattle.station.proofs.Laws.{change_no_whole, change_no_numbers, change_met, filled_by}
use Rattle.station.proofs.change.Goals as goal

pub returns-then-whole-ne27 : goal.returns-then-whole-ne27
returns-then-whole-ne27 c =
    let k = change_no_whole c.args.c _ _ c.if-whole-ne27.true in
    (ap Err c.at.ensures ∙ k.0, k.1)

pub returns-then-numbers-ne259 : goal.returns-then-numbers-ne259
returns-then-numbers-ne259 c =
    let k = change_no_numbers c.args.c _ _ c.if-whole-ne27.false c.if-numbers-ne259.true in
    (ap Err c.at-then-numbers-ne259.ensures ∙ k.0, k.1)

pub returns-in_err-judge : goal.returns-in_err-judge
returns-in_err-judge c =
    let p = err_from_is_err_and c.from_residual.result c.from_residual.ensures.1 in
    let m = c.with_change-n.ensures ∙ ap (change_of c.args.c) c.record_in.ensures in
    let o = sym (ap accepted_of c.in_err-judge.ensures) in
    change_met c.args.c _ _ c.if-whole-ne27.false c.if-numbers-ne259.false c.row_in-w.result c.with_change-n.result _ _ c.row_in-w.ensures m (p.1 ∙ ap Err p.2 ∙ c.in_err-judge.ensures) (simp o)

pub returns : goal.returns
returns c =
    let m = c.with_change-n.ensures ∙ ap (change_of c.args.c) c.record_in.ensures in
    let o = sym (ap accepted_of c.in_ok-judge.ensures) in
    let f = c.fill.ensures ∙ ap (λ a. filled_of c.row_in-w.result c.with_change-n.result a c.args.numbers.now) c.sets_for.ensures ∙ filled_by c.args.c _ _ _ c.if-numbers-ne259.false in
    change_met c.args.c _ _ c.if-whole-ne27.false c.if-numbers-ne259.false c.row_in-w.result c.with_change-n.result _ _ c.row_in-w.ensures m c.in_ok-judge.ensures (simp o f)
