-- `potirehu_crossings` meets its contract.
use Rattle.host_record.specs.Record.{code_of}
use Rattle.refusals.specs.Refusals.{accepted_of}
use mathlib.Core.Path.{sym, ◌∙◌, ap}
use mir.Facts.{to_z-of_z}
use Rattle.host_record.proofs.SliceLaws.{fields_fit, switches_fit, dated}
use Rattle.potirehu.proofs.Laws.{no_list, a_list}
use Rattle.potirehu.proofs.listing.potirehu_crossings.Goals as goal

pub returns-in-Err : goal.returns-in-Err
returns-in-Err c =
    let k = c.lengths in
    let A = c.args in
    no_list A.year A.doy A.fields.now A.ap_array.now A.switches.now A.altitudes.now A.level A.list.now k.result k.ensures _
    (ap accepted_of c.in-Err.is) (c.code.ensures ∙ ap code_of (sym c.in-Err.is))

pub switch_row-w-requires : goal.switch_row-w-requires
switch_row-w-requires c =
    switches_fit _ _ _ c.lengths.result c.lengths.ensures (ap accepted_of c.in_default.is)

pub record_of-n-requires : goal.record_of-n-requires
record_of-n-requires c =
    fields_fit _ _ _ c.lengths.result c.lengths.ensures (ap accepted_of c.in_default.is)

pub returns : goal.returns
returns c =
    let g = c.crossings-a in
    let n = c.record_of-n in
    let w = c.switch_row-w in
    let k = c.lengths in
    let A = c.args in
    a_list A.year A.doy A.fields.now A.ap_array.now A.switches.now A.altitudes.now A.level A.list.now k.result k.ensures _
    g.result n.result w.result _ (ap accepted_of c.in_default.is) c.listing_code.ensures g.ensures.0 g.ensures.1
    (dated A.fields.now A.ap_array.now n.result _ _ A.year A.doy n.ensures (to_z-of_z c.ranges.year) (to_z-of_z c.ranges.doy))
    w.ensures
