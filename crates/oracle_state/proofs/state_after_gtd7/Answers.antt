-- `state_after_gtd7` meets its contract.
use Rattle.std.specs.Prelude.{Err}
use mathlib.Core.Path.{refl, sym, ◌∙◌, ap}
use mir.Facts.{to_z-of_z}
use lib.ListN.{length}
use Rattle.refusals.specs.Refusals.{Accepted, Refused, accepted_of}
use Rattle.refusals.specs.declared.Reason.TheVariants.{WrongLength}
use Rattle.host_record.specs.Record.{record_of, code_of}
use Rattle.host_record.proofs.SliceLaws.{refused, fields_fit, switches_fit, passed, dated}
use Rattle.oracle_state.specs.OracleState.{numbers_of_state, state_answer, state_numbers}
use Rattle.atmosphere.specs.Atmosphere.{left_of}
use Rattle.oracle_state.proofs.Laws.{no_slice, a_slice, answered}
use Rattle.oracle_state.proofs.state_after_gtd7.Goals as goal

pub returns-then-numbers-ne79 : goal.returns-then-numbers-ne79
unfolding state_numbers
returns-then-numbers-ne79 c =
    let A = c.args in
    refused (state_answer A.fields.now A.ap_array.now A.switches.now (length A.numbers.now)) (Refused WrongLength 79) (numbers_of_state (left_of A.switches.now (record_of A.year A.doy A.fields.now A.ap_array.now))) A.numbers.now _
    (no_slice A.fields.now A.ap_array.now A.switches.now A.numbers.now c.if-numbers-ne79.true)
    refl
    (c.code.ensures ∙ ap code_of (ap Err c.at.ensures))

pub returns-in-Err : goal.returns-in-Err
unfolding state_numbers
returns-in-Err c =
    let k = c.lengths in
    let A = c.args in
    refused (state_answer A.fields.now A.ap_array.now A.switches.now (length A.numbers.now)) k.result (numbers_of_state (left_of A.switches.now (record_of A.year A.doy A.fields.now A.ap_array.now))) A.numbers.now _
    (a_slice A.fields.now A.ap_array.now A.switches.now A.numbers.now c.if-numbers-ne79.false ∙ sym k.ensures)
    (ap accepted_of c.in-Err.is)
    (c.code-in-Err.ensures ∙ ap code_of (sym c.in-Err.is))

pub switch_row-w-requires : goal.switch_row-w-requires
switch_row-w-requires c =
    switches_fit _ _ _ c.lengths.result c.lengths.ensures (ap accepted_of c.in_default.is)

pub record_of-n-requires : goal.record_of-n-requires
record_of-n-requires c =
    fields_fit _ _ _ c.lengths.result c.lengths.ensures (ap accepted_of c.in_default.is)

pub returns : goal.returns
returns c =
    let n = c.record_of-n in
    let w = c.switch_row-w in
    let k = c.lengths in
    let A = c.args in
    answered A.fields.now A.ap_array.now A.switches.now A.numbers.now A.year A.doy _ _ c.left-s.result n.result w.result
    c.code-2.ensures c.put_state.ensures c.left-s.ensures
    (dated A.fields.now A.ap_array.now n.result _ _ A.year A.doy n.ensures (to_z-of_z c.ranges.year) (to_z-of_z c.ranges.doy))
    w.ensures
    (a_slice A.fields.now A.ap_array.now A.switches.now A.numbers.now c.if-numbers-ne79.false
    ∙ passed A.fields.now A.ap_array.now A.switches.now k.result k.ensures (ap accepted_of c.in_default.is) Accepted)
