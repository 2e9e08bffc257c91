-- `gtd7` meets its contract.
use Rattle.std.specs.Prelude.{Err}
use Rattle.std.proofs.Common.{sym, ap, ◌∙◌, arith, rules}
use Rattle.std.proofs.lemmas.Result.{err_from_is_err_and}
use Rattle.refusals.specs.Refusals.{accepted_of}
use Rattle.std.proofs.lemmas.List.{length-take-le}
use Rattle.station_answer.proofs.Laws.{altitude_fits}
use Rattle.station.proofs.Laws.{altitude_refused, altitude_given}
use Rattle.station.proofs.gtd7.Goals as goal

pub returns-in_err-altitude_answer : goal.returns-in_err-altitude_answer
returns-in_err-altitude_answer c =
    let p = err_from_is_err_and c.from_residual.result c.from_residual.ensures.1 in
    (p.1 ∙ ap Err p.2 ∙ c.in_err-altitude_answer.ensures, altitude_refused _ _ _ _ (sym (ap accepted_of c.in_err-altitude_answer.ensures)))

pub units_in-sw0-requires : goal.units_in-sw0-requires
units_in-sw0-requires c = let f = altitude_fits _ _ _ _ (sym (ap accepted_of c.in_ok-altitude_answer.ensures)) in f.1

pub mixing_in-sw15-requires : goal.mixing_in-sw15-requires
mixing_in-sw15-requires c = let f = altitude_fits _ _ _ _ (sym (ap accepted_of c.in_ok-altitude_answer.ensures)) in f.1

pub slice_bounds-station_row_on-end : goal.slice_bounds-station_row_on-end
slice_bounds-station_row_on-end c =
    let f = altitude_fits _ _ _ _ (sym (ap accepted_of c.in_ok-altitude_answer.ensures)) in
    omega (arith, f.2)

pub station_row_on-requires : goal.station_row_on-requires
station_row_on-requires c =
    let f = altitude_fits _ _ _ _ (sym (ap accepted_of c.in_ok-altitude_answer.ensures)) in
    (length-take-le 234 c.args.numbers.now (omega (arith, f.2)), f.0)

pub returns : goal.returns
returns c =
    let o = sym (ap accepted_of c.in_ok-altitude_answer.ensures) in
    (c.in_ok-altitude_answer.ensures, altitude_given _ _ _ _ _ c.units_in-sw0.result c.mixing_in-sw15.result o c.station_row_on.ensures c.units_in-sw0.ensures c.mixing_in-sw15.ensures)
