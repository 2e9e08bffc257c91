-- `potirehu_gtd7_column` meets its contract: each return is an outcome of its definition.
use Rattle.refusals.specs.Refusals.{accepted_of}
use mathlib.Core.Path.{sym, ◌∙◌, ap}
use mir.Facts.{to_z-of_z}
use lib.ListN.{length}
use Rattle.altitudes.specs.Altitudes.{column_answer}
use Rattle.column.specs.Column.{column_after}
use Rattle.host_record.specs.Record.{record_of, code_of}
use Rattle.potirehu.specs.Potirehu.{host_column, host_rows}
use Rattle.host_record.proofs.SliceLaws.{refused, stopped, fields_fit, switches_fit, passed, dated}
use Rattle.potirehu.proofs.Laws.{answered_column}
use Rattle.potirehu.proofs.potirehu_gtd7_column.Goals as goal

pub returns-in-Err : goal.returns-in-Err
unfolding host_column host_rows
returns-in-Err c =
    let k = c.lengths in
    let A = c.args in
    let t = ap accepted_of c.in-Err.is in
    refused (host_column A.year A.doy A.fields.now A.ap_array.now A.switches.now A.altitudes.now (length A.rows.now)) k.result (column_after A.switches.now (record_of A.year A.doy A.fields.now A.ap_array.now) A.altitudes.now A.rows.now) A.rows.now _
    (stopped A.fields.now A.ap_array.now A.switches.now k.result k.ensures t (column_answer A.switches.now (record_of A.year A.doy A.fields.now A.ap_array.now) A.altitudes.now (length A.rows.now)))
    t
    (c.code.ensures ∙ ap code_of (sym c.in-Err.is))

pub switch_row-w-requires : goal.switch_row-w-requires
switch_row-w-requires c =
    switches_fit _ _ _ c.lengths.result c.lengths.ensures (ap accepted_of c.in_default.is)

pub record_of-n-requires : goal.record_of-n-requires
record_of-n-requires c =
    fields_fit _ _ _ c.lengths.result c.lengths.ensures (ap accepted_of c.in_default.is)

pub returns : goal.returns
unfolding host_column
returns c =
    let g = c.gtd7_column-a in
    let n = c.record_of-n in
    let w = c.switch_row-w in
    let k = c.lengths in
    let A = c.args in
    answered_column A.year A.doy A.fields.now A.ap_array.now A.switches.now A.altitudes.now A.rows.now _ g.result n.result w.result _
    c.code-2.ensures g.ensures.0 g.ensures.1
    (dated A.fields.now A.ap_array.now n.result _ _ A.year A.doy n.ensures (to_z-of_z c.ranges.year) (to_z-of_z c.ranges.doy))
    w.ensures
    (passed A.fields.now A.ap_array.now A.switches.now k.result k.ensures (ap accepted_of c.in_default.is) (column_answer A.switches.now (record_of A.year A.doy A.fields.now A.ap_array.now) A.altitudes.now (length A.rows.now)))
