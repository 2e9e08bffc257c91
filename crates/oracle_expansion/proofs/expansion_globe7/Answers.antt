-- `expansion_globe7` meets its contract: each return is an outcome of its definition.
use mathlib.Core.Path.{◌∙◌, ap, ap₂}
use mathlib.Core.List.{List}
use mir.Facts.{to_z-of_z}
use lib.IntN.{ℤ}
use Rattle.setting.specs.declared.Input.{Input}
use Rattle.setting.specs.declared.State.{State}
use Rattle.expansion_calls.specs.ExpansionCalls.{globe7_call_of}
use Rattle.host_record.specs.Record.{record_of}
use Rattle.oracle_expansion.specs.OracleExpansion.{state_of, told_of, host_globe7}
use Rattle.oracle_expansion.proofs.Laws.{misfit_told, fit_told}
use Rattle.oracle_expansion.proofs.expansion_globe7.Goals as goal

pub returns-in-Some : goal.returns-in-Some
unfolding host_globe7
returns-in-Some c =
    let A = c.args in
    let told = misfit_told _ _ c.misfit-k.ensures.value _ (told_of (globe7_call_of A.switches.now (record_of A.year A.doy A.fields.now A.ap_array.now) A.p.now (state_of A.state.now))) A.numbers.now _ c.in-Some.is c.packed.ensures in
    record { value = told.0; numbers_after = told.1 }

pub switch_row-w-requires : goal.switch_row-w-requires
switch_row-w-requires c = (c.misfit-k.ensures.numbers_value c.in_default.is).2

pub record_of-n-requires : goal.record_of-n-requires
record_of-n-requires c = (c.misfit-k.ensures.numbers_value c.in_default.is).1

pub state_of-s-requires : goal.state_of-s-requires
state_of-s-requires c = (c.misfit-k.ensures.numbers_value c.in_default.is).3

pub tell-requires : goal.tell-requires
tell-requires c = (c.misfit-k.ensures.numbers_value c.in_default.is).0

pub returns : goal.returns
unfolding host_globe7
returns c =
    let A = c.args in
    let w = c.switch_row-w in
    let n = c.record_of-n.ensures ∙ ap₂ (λ (y d : ℤ). record_of y d A.fields.now A.ap_array.now) (to_z-of_z c.ranges.year) (to_z-of_z c.ranges.doy) in
    let told =
    fit_told _ _ c.misfit-k.ensures.value _ (told_of (globe7_call_of A.switches.now (record_of A.year A.doy A.fields.now A.ap_array.now) A.p.now (state_of A.state.now))) A.numbers.now
    (told_of c.globe7-a.result) _ c.in_default.is
    (ap told_of (c.globe7-a.ensures
    ∙ ap₂ (λ (n : Input) (s : State). globe7_call_of w.result n A.p.now s) n c.state_of-s.ensures
    ∙ ap (λ (w : List ℤ). globe7_call_of w (record_of A.year A.doy A.fields.now A.ap_array.now) A.p.now (state_of A.state.now)) w.ensures))
    c.tell.ensures in
    record { value = told.0; numbers_after = told.1 }
