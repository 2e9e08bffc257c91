-- `potirehu_descent` meets its contract.
use Rattle.std.specs.Prelude.{Err}
use Rattle.host_record.specs.Record.{code_of}
use mathlib.Core.Path.{refl, sym, ◌∙◌, ap}
use mir.Facts.{to_z-of_z}
use lib.ListN.{length}
use Rattle.refusals.specs.Refusals.{Refused, accepted_of}
use Rattle.refusals.specs.declared.Reason.TheVariants.{WrongLength}
use Rattle.descent.proofs.Laws.{end_fits}
use Rattle.host_record.proofs.SliceLaws.{fields_fit, switches_fit, dated}
use Rattle.potirehu.proofs.Laws.{wrong_length, right_length}
use Rattle.potirehu.proofs.DescentLaws.{not_flown, flown}
use Rattle.potirehu.proofs.descents.potirehu_descent.Goals as goal

pub returns-then-end-ne3 : goal.returns-then-end-ne3
returns-then-end-ne3 c =
    let A = c.args in
    not_flown A.year A.doy A.fields.now A.ap_array.now A.switches.now A.start A.settings.now A.losses.now A.end.now (Refused WrongLength 3)
    (wrong_length 3 A.fields.now A.ap_array.now A.switches.now (length A.end.now) c.if-end-ne3.true) _ refl (c.code.ensures ∙ ap code_of (ap Err c.at.ensures))

pub returns-in-Err : goal.returns-in-Err
returns-in-Err c =
    let A = c.args in
    not_flown A.year A.doy A.fields.now A.ap_array.now A.switches.now A.start A.settings.now A.losses.now A.end.now c.lengths.result
    (right_length 3 A.fields.now A.ap_array.now A.switches.now (length A.end.now) c.if-end-ne3.false c.lengths.result c.lengths.ensures) _
    (ap accepted_of c.in-Err.is) (c.code-in-Err.ensures ∙ ap code_of (sym c.in-Err.is))

pub switch_row-w-requires : goal.switch_row-w-requires
switch_row-w-requires c =
    switches_fit _ _ _ c.lengths.result c.lengths.ensures (ap accepted_of c.in_default.is)

pub record_of-n-requires : goal.record_of-n-requires
record_of-n-requires c =
    fields_fit _ _ _ c.lengths.result c.lengths.ensures (ap accepted_of c.in_default.is)

pub put_descended-requires : goal.put_descended-requires
put_descended-requires c =
    (c.if-end-ne3.false, (λ d h. end_fits _ _ _ _ _ d (sym h ∙ c.descent-a.ensures.0)))

pub returns : goal.returns
returns c =
    let A = c.args in
    flown A.year A.doy A.fields.now A.ap_array.now A.switches.now A.start A.settings.now A.losses.now A.end.now c.lengths.result
    (right_length 3 A.fields.now A.ap_array.now A.switches.now (length A.end.now) c.if-end-ne3.false c.lengths.result c.lengths.ensures) _
    c.descent-a.result c.record_of-n.result c.switch_row-w.result _ _ _ (ap accepted_of c.in_default.is)
    c.put_descended.ensures.0 c.put_descended.ensures.1 c.descent-a.ensures.0 c.descent-a.ensures.1
    (dated A.fields.now A.ap_array.now c.record_of-n.result _ _ A.year A.doy c.record_of-n.ensures (to_z-of_z c.ranges.year) (to_z-of_z c.ranges.doy))
    c.switch_row-w.ensures (to_z-of_z c.ranges.start)
