-- `potirehu_gtd7_known` meets its contract.
use Rattle.std.specs.Prelude.{Err}
use Rattle.host_record.specs.Record.{code_of}
use mathlib.Core.Path.{refl, sym, ◌∙◌, ap}
use mir.Facts.{to_z-of_z}
use lib.ListN.{length}
use Rattle.refusals.specs.Refusals.{Refused, accepted_of}
use Rattle.refusals.specs.declared.Reason.TheVariants.{WrongLength}
use Rattle.host_record.proofs.SliceLaws.{fields_fit, switches_fit, dated}
use Rattle.potirehu.proofs.Laws.{wrong_length, right_length}
use Rattle.potirehu.proofs.KnownLaws.{not_called, called}
use Rattle.potirehu.proofs.known_in_part.potirehu_gtd7_known.Goals as goal

pub returns-then-row-ne11 : goal.returns-then-row-ne11
returns-then-row-ne11 c =
    let A = c.args in
    not_called A.known A.year A.doy A.fields.now A.ap_array.now A.switches.now A.row.now (Refused WrongLength 11)
    (wrong_length 11 A.fields.now A.ap_array.now A.switches.now (length A.row.now) c.if-row-ne11.true) _ refl (c.code.ensures ∙ ap code_of (ap Err c.at.ensures))

pub returns-in-Err : goal.returns-in-Err
returns-in-Err c =
    let k = c.lengths in
    let A = c.args in
    not_called A.known A.year A.doy A.fields.now A.ap_array.now A.switches.now A.row.now k.result
    (right_length 11 A.fields.now A.ap_array.now A.switches.now (length A.row.now) c.if-row-ne11.false k.result k.ensures) _
    (ap accepted_of c.in-Err.is) (c.code-in-Err.ensures ∙ ap code_of (sym c.in-Err.is))

pub switch_row-w-requires : goal.switch_row-w-requires
switch_row-w-requires c =
    switches_fit _ _ _ c.lengths.result c.lengths.ensures (ap accepted_of c.in_default.is)

pub record_of-n-requires : goal.record_of-n-requires
record_of-n-requires c =
    fields_fit _ _ _ c.lengths.result c.lengths.ensures (ap accepted_of c.in_default.is)

pub returns : goal.returns
returns c =
    let g = c.gtd7_known-a in
    let n = c.record_of-n in
    let w = c.switch_row-w in
    let k = c.lengths in
    let A = c.args in
    called A.known A.year A.doy A.fields.now A.ap_array.now A.switches.now A.row.now k.result
    (right_length 11 A.fields.now A.ap_array.now A.switches.now (length A.row.now) c.if-row-ne11.false k.result k.ensures) _
    g.result n.result w.result _ (ap accepted_of c.in_default.is) c.code-2.ensures g.ensures.0 g.ensures.1
    (dated A.fields.now A.ap_array.now n.result _ _ A.year A.doy n.ensures (to_z-of_z c.ranges.year) (to_z-of_z c.ranges.doy))
    w.ensures
