-- `potirehu_station` meets its contract.
use Rattle.std.specs.Prelude.{Err}
use mathlib.Core.Path.{refl, sym, ◌∙◌, ap}
use mir.Facts.{to_z-of_z}
use lib.ListN.{length}
use Rattle.refusals.specs.Refusals.{Refused, accepted_of}
use Rattle.refusals.specs.declared.Reason.TheVariants.{WrongLength}
use Rattle.station_answer.specs.Answers.{station_answer}
use Rattle.host_record.specs.Record.{record_of, code_of}
use Rattle.host_record.proofs.SliceLaws.{stopped, fields_fit, switches_fit, passed, dated}
use Rattle.potirehu.proofs.Laws.{station_refused, no_whole, no_numbers, a_station, prepared}
use Rattle.potirehu.proofs.stations.potirehu_station.Goals as goal

pub returns-then-whole-ne27 : goal.returns-then-whole-ne27
returns-then-whole-ne27 c = station_refused c.args.year c.args.doy c.args.fields.now c.args.ap_array.now c.args.switches.now c.args.whole.now c.args.numbers.now (Refused WrongLength 27) _ (no_whole c.args.year c.args.doy c.args.fields.now c.args.ap_array.now c.args.switches.now c.args.whole.now c.args.numbers.now c.if-whole-ne27.true) refl (c.code.ensures ∙ ap code_of (ap Err c.at.ensures))

pub returns-then-numbers-ne259 : goal.returns-then-numbers-ne259
returns-then-numbers-ne259 c = station_refused c.args.year c.args.doy c.args.fields.now c.args.ap_array.now c.args.switches.now c.args.whole.now c.args.numbers.now (Refused WrongLength 259) _ (no_numbers c.args.year c.args.doy c.args.fields.now c.args.ap_array.now c.args.switches.now c.args.whole.now c.args.numbers.now c.if-whole-ne27.false c.if-numbers-ne259.true) refl (c.code-then-numbers-ne259.ensures ∙ ap code_of (ap Err c.at-then-numbers-ne259.ensures))

pub returns-in-Err : goal.returns-in-Err
returns-in-Err c = let t = ap accepted_of c.in-Err.is in
    station_refused c.args.year c.args.doy c.args.fields.now c.args.ap_array.now c.args.switches.now c.args.whole.now c.args.numbers.now c.lengths.result _ (a_station c.args.year c.args.doy c.args.fields.now c.args.ap_array.now c.args.switches.now c.args.whole.now c.args.numbers.now c.if-whole-ne27.false c.if-numbers-ne259.false ∙ stopped c.args.fields.now c.args.ap_array.now c.args.switches.now c.lengths.result c.lengths.ensures t (station_answer c.args.switches.now (record_of c.args.year c.args.doy c.args.fields.now c.args.ap_array.now) (length c.args.whole.now) (length c.args.numbers.now))) t (c.code-in-Err.ensures ∙ ap code_of (sym c.in-Err.is))

pub switch_row-w-requires : goal.switch_row-w-requires
switch_row-w-requires c = switches_fit _ _ _ c.lengths.result c.lengths.ensures (ap accepted_of c.in_default.is)

pub record_of-n-requires : goal.record_of-n-requires
record_of-n-requires c = fields_fit _ _ _ c.lengths.result c.lengths.ensures (ap accepted_of c.in_default.is)

pub returns : goal.returns
returns c = let t = ap accepted_of c.in_default.is in
    prepared c.args.year c.args.doy c.args.fields.now c.args.ap_array.now c.args.switches.now c.args.whole.now c.args.numbers.now _ c.prepare-a.result c.record_of-n.result c.switch_row-w.result _ _
    c.code-2.ensures c.prepare-a.ensures.0 c.prepare-a.ensures.1 c.prepare-a.ensures.2
    (dated c.args.fields.now c.args.ap_array.now c.record_of-n.result _ _ c.args.year c.args.doy c.record_of-n.ensures (to_z-of_z c.ranges.year) (to_z-of_z c.ranges.doy))
    c.switch_row-w.ensures
    (a_station c.args.year c.args.doy c.args.fields.now c.args.ap_array.now c.args.switches.now c.args.whole.now c.args.numbers.now c.if-whole-ne27.false c.if-numbers-ne259.false ∙ passed c.args.fields.now c.args.ap_array.now c.args.switches.now c.lengths.result c.lengths.ensures t (station_answer c.args.switches.now (record_of c.args.year c.args.doy c.args.fields.now c.args.ap_array.now) (length c.args.whole.now) (length c.args.numbers.now)))
