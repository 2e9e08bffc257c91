-- `potirehu_bands_gtd7` meets its contract.
use Rattle.host_record.specs.Record.{code_of}
use Rattle.refusals.specs.Refusals.{accepted_of}
use mathlib.Core.Path.{sym, ◌∙◌, ap}
use mir.Facts.{to_z-of_z}
use Rattle.host_record.proofs.SliceLaws.{dated}
use Rattle.potirehu.proofs.BandLaws.{short, fields_long, called}
use Rattle.potirehu.proofs.banded.potirehu_bands_gtd7.Goals as goal

pub returns-in-Err : goal.returns-in-Err
returns-in-Err c =
    let k = c.band_lengths in
    let A = c.args in
    short A.table.now A.metre A.year A.doy A.fields.now A.ap_array.now A.row.now k.result k.ensures
    (ap accepted_of c.in-Err.is) _ (c.code.ensures ∙ ap code_of (sym c.in-Err.is))

pub record_of-n-requires : goal.record_of-n-requires
record_of-n-requires c =
    let k = c.band_lengths in
    let A = c.args in
    fields_long A.table.now A.metre A.year A.doy A.fields.now A.ap_array.now A.row.now k.result k.ensures
    (ap accepted_of c.in_default.is)

pub returns : goal.returns
returns c =
    let g = c.gtd7_in_bands-a in
    let n = c.record_of-n in
    let k = c.band_lengths in
    let A = c.args in
    called A.table.now A.metre A.year A.doy A.fields.now A.ap_array.now A.row.now k.result k.ensures
    (ap accepted_of c.in_default.is) _ g.result n.result _ _
    c.code-2.ensures g.ensures.0 g.ensures.1
    (dated A.fields.now A.ap_array.now n.result _ _ A.year A.doy n.ensures (to_z-of_z c.ranges.year) (to_z-of_z c.ranges.doy))
    (to_z-of_z c.ranges.metre)
