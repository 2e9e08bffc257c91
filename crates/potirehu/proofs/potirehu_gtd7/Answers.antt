-- `potirehu_gtd7` meets its contract: each return is an outcome of its definition.
use Rattle.std.specs.Prelude.{Err}
use mathlib.Core.Path.{refl, sym, ◌∙◌, ap}
use mir.Facts.{to_z-of_z}
use lib.ListN.{length}
use Rattle.refusals.specs.Refusals.{Refused, accepted_of}
use Rattle.refusals.specs.declared.Reason.TheVariants.{WrongLength}
use Rattle.atmosphere.specs.Atmosphere.{eleven_of, row_after}
use Rattle.host_record.specs.Record.{record_of, code_of}
use Rattle.potirehu.specs.Potirehu.{host_answer, host_row}
use Rattle.host_record.proofs.SliceLaws.{refused, stopped, fields_fit, switches_fit, passed, dated}
use Rattle.potirehu.proofs.Laws.{no_row_lem, a_row, rest, answered}
use Rattle.potirehu.proofs.potirehu_gtd7.Goals as goal

pub returns-then-row-ne11 : goal.returns-then-row-ne11
unfolding host_row
returns-then-row-ne11 c =
    let A = c.args in
    refused (host_answer A.year A.doy A.fields.now A.ap_array.now A.switches.now (length A.row.now)) (Refused WrongLength 11) (row_after A.switches.now (record_of A.year A.doy A.fields.now A.ap_array.now) A.row.now) A.row.now _
    (no_row_lem A.year A.doy A.fields.now A.ap_array.now A.switches.now A.row.now c.if-row-ne11.true)
    refl
    (c.code.ensures ∙ ap code_of (ap Err c.at.ensures))

pub returns-in-Err : goal.returns-in-Err
unfolding host_row
returns-in-Err c =
    let k = c.lengths in
    let A = c.args in
    let t = ap accepted_of c.in-Err.is in
    refused (host_answer A.year A.doy A.fields.now A.ap_array.now A.switches.now (length A.row.now)) k.result (row_after A.switches.now (record_of A.year A.doy A.fields.now A.ap_array.now) A.row.now) A.row.now _
    (a_row A.year A.doy A.fields.now A.ap_array.now A.switches.now A.row.now c.if-row-ne11.false
    ∙ stopped A.fields.now A.ap_array.now A.switches.now k.result k.ensures t (rest A.year A.doy A.fields.now A.ap_array.now A.switches.now A.row.now))
    t
    (c.code-in-Err.ensures ∙ ap code_of (sym c.in-Err.is))

pub switch_row-w-requires : goal.switch_row-w-requires
switch_row-w-requires c =
    switches_fit _ _ _ c.lengths.result c.lengths.ensures (ap accepted_of c.in_default.is)

pub record_of-n-requires : goal.record_of-n-requires
record_of-n-requires c =
    fields_fit _ _ _ c.lengths.result c.lengths.ensures (ap accepted_of c.in_default.is)

pub returns : goal.returns
unfolding host_row row_after
returns c =
    let g = c.gtd7-a in
    let n = c.record_of-n in
    let w = c.switch_row-w in
    let k = c.lengths in
    let A = c.args in
    answered A.year A.doy A.fields.now A.ap_array.now A.switches.now A.row.now eleven_of _ g.result n.result w.result _
    c.code-2.ensures g.ensures.0 g.ensures.1
    (dated A.fields.now A.ap_array.now n.result _ _ A.year A.doy n.ensures (to_z-of_z c.ranges.year) (to_z-of_z c.ranges.doy))
    w.ensures
    (a_row A.year A.doy A.fields.now A.ap_array.now A.switches.now A.row.now c.if-row-ne11.false
    ∙ passed A.fields.now A.ap_array.now A.switches.now k.result k.ensures (ap accepted_of c.in_default.is) (rest A.year A.doy A.fields.now A.ap_array.now A.switches.now A.row.now))
