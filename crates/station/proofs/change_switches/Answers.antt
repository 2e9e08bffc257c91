-- `change_switches` meets its contract.
use Rattle.std.specs.Prelude.{Err}
use Rattle.std.proofs.Common.{sym, ap, ◌∙◌, arith, rules}
use Rattle.std.proofs.lemmas.Result.{err_from_is_err_and}
use Rattle.refusals.specs.Refusals.{accepted_of}
use Rattle.std.specs.Prelude.{cond}
use Rattle.station.proofs.Laws.{switches_no_whole, switches_no_numbers, met, switches_refused, switches_taken}
use Rattle.station.proofs.change_switches.Goals as goal

pub returns-then-whole-ne27 : goal.returns-then-whole-ne27
returns-then-whole-ne27 c =
    let k = switches_no_whole c.args.w _ _ c.if-whole-ne27.true in
    (ap Err c.at.ensures ∙ k.0, k.1, k.2)

pub returns-then-numbers-ne259 : goal.returns-then-numbers-ne259
returns-then-numbers-ne259 c =
    let k = switches_no_numbers c.args.w _ _ c.if-whole-ne27.false c.if-numbers-ne259.true in
    (ap Err c.at-then-numbers-ne259.ensures ∙ k.0, k.1, k.2)

pub returns-in_err-take_row : goal.returns-in_err-take_row
returns-in_err-take_row c =
    let p = err_from_is_err_and c.from_residual.result c.from_residual.ensures.1 in
    let t = c.in_err-take_row.ensures in
    let e = met c.args.w c.args.whole.now c.args.numbers.now c.if-whole-ne27.false c.if-numbers-ne259.false _ _ c.record_in-n.ensures t.1 in
    let k = switches_refused c.args.w c.args.whole.now c.args.numbers.now c.if-whole-ne27.false c.if-numbers-ne259.false _ _ c.record_in-n.ensures t.1 (sym (ap accepted_of t.0)) in
    (p.1 ∙ ap Err p.2 ∙ t.0 ∙ sym e, k.0, k.1)

pub returns : goal.returns
returns c =
    let t = c.in_ok-take_row.ensures in
    let e = met c.args.w c.args.whole.now c.args.numbers.now c.if-whole-ne27.false c.if-numbers-ne259.false _ _ c.record_in-n.ensures t.1 in
    let k = switches_taken c.args.w c.args.whole.now c.args.numbers.now c.if-whole-ne27.false c.if-numbers-ne259.false _ _ c.record_in-n.ensures t.1 c.row_in-old.result _ (sym (ap accepted_of t.0)) c.row_in-old.ensures c.renew.ensures in
    (t.0 ∙ sym e, k.0, k.1)
