-- `potirehu_gtd7_with` meets its contract.
use Rattle.host_record.specs.Record.{code_of}
use Rattle.refusals.specs.Refusals.{accepted_of}
use mathlib.Core.Path.{sym, ◌∙◌, ap}
use mir.Facts.{to_z-of_z}
use Rattle.host_record.proofs.NineLaws.{nine_long, fields_long, switches_long}
use Rattle.host_record.proofs.SliceLaws.{dated}
use Rattle.potirehu.proofs.ConstantLaws.{not_called, called}
use Rattle.potirehu.proofs.constants.potirehu_gtd7_with.Goals as goal

pub returns-in-Err : goal.returns-in-Err
returns-in-Err c =
    let k = c.lengths_with in
    let A = c.args in
    not_called A.nine.now A.year A.doy A.fields.now A.ap_array.now A.switches.now A.row.now k.result k.ensures
    (ap accepted_of c.in-Err.is) _ (c.code.ensures ∙ ap code_of (sym c.in-Err.is))

pub nine_of-c-requires : goal.nine_of-c-requires
nine_of-c-requires c =
    nine_long _ _ _ _ _ c.lengths_with.result c.lengths_with.ensures (ap accepted_of c.in_default.is)

pub switch_row-w-requires : goal.switch_row-w-requires
switch_row-w-requires c =
    switches_long _ _ _ _ _ c.lengths_with.result c.lengths_with.ensures (ap accepted_of c.in_default.is)

pub record_of-n-requires : goal.record_of-n-requires
record_of-n-requires c =
    fields_long _ _ _ _ _ c.lengths_with.result c.lengths_with.ensures (ap accepted_of c.in_default.is)

pub returns : goal.returns
returns c =
    let g = c.gtd7_with-a in
    let n = c.record_of-n in
    let w = c.switch_row-w in
    let m = c.nine_of-c in
    let k = c.lengths_with in
    let A = c.args in
    called A.nine.now A.year A.doy A.fields.now A.ap_array.now A.switches.now A.row.now k.result k.ensures
    (ap accepted_of c.in_default.is) _ g.result m.result n.result w.result _
    c.code-2.ensures g.ensures.0 g.ensures.1 m.ensures
    (dated A.fields.now A.ap_array.now n.result _ _ A.year A.doy n.ensures (to_z-of_z c.ranges.year) (to_z-of_z c.ranges.doy))
    w.ensures
