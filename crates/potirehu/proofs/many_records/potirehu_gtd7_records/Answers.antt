-- `potirehu_gtd7_records` meets its contract.
use mathlib.Core.Path.{ap}
use Rattle.potirehu.proofs.RecordLaws.{refused, met, taken}
use Rattle.potirehu.proofs.many_records.potirehu_gtd7_records.Goals as goal

pub returns-then-refusal-ne0 : goal.returns-then-refusal-ne0
returns-then-refusal-ne0 c =
    let A = c.args in
    refused A.days.now A.fields.now A.ap_arrays.now A.switches.now A.answers.now A.rows.now c.lengths_code-refusal.result c.lengths_code-refusal.ensures c.if-refusal-ne0.true

pub switch_row-w-requires : goal.switch_row-w-requires
switch_row-w-requires c =
    let A = c.args in
    (met A.days.now A.fields.now A.ap_arrays.now A.switches.now A.answers.now A.rows.now c.lengths_code-refusal.result c.lengths_code-refusal.ensures c.if-refusal-ne0.false).3

pub gtd7_records-requires : goal.gtd7_records-requires
gtd7_records-requires c =
    let A = c.args in
    let m = met A.days.now A.fields.now A.ap_arrays.now A.switches.now A.answers.now A.rows.now c.lengths_code-refusal.result c.lengths_code-refusal.ensures c.if-refusal-ne0.false in
    (m.0, m.1, m.2)

pub returns : goal.returns
returns c =
    let A = c.args in
    taken A.days.now A.fields.now A.ap_arrays.now A.switches.now A.answers.now A.rows.now c.lengths_code-refusal.result c.lengths_code-refusal.ensures c.if-refusal-ne0.false
    c.switch_row-w.result _ _ c.switch_row-w.ensures c.gtd7_records.ensures.0 c.gtd7_records.ensures.1
