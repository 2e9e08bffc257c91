-- `gtd7d` meets its contract: refused, the row is kept; accepted, it is gtd7's with d[5] replaced.
use Rattle.std.specs.Prelude.{Err}
use Rattle.std.proofs.Common.{sym, ap, ◌∙◌, arith, rules}
use Rattle.std.proofs.lemmas.Result.{err_from_is_err_and}
use Rattle.refusals.specs.Refusals.{accepted_of}
use Rattle.station_answer.proofs.Laws.{altitude_fits}
use Rattle.station.proofs.Laws.{drag_refused, drag_given}
use Rattle.station.proofs.gtd7d.Goals as goal

pub returns-in_err-gtd7 : goal.returns-in_err-gtd7
returns-in_err-gtd7 c =
    let p = err_from_is_err_and c.from_residual.result c.from_residual.ensures.1 in
    let g = c.in_err-gtd7.ensures in
    (p.1 ∙ ap Err p.2 ∙ g.0, drag_refused _ _ _ _ _ (sym (ap accepted_of g.0)) g.1)

pub units_in-units-requires : goal.units_in-units-requires
units_in-units-requires c = let f = altitude_fits _ _ _ _ (sym (ap accepted_of c.in_ok-gtd7.ensures.0)) in f.1

pub drag_on-requires : goal.drag_on-requires
drag_on-requires c =
    let f = altitude_fits _ _ _ _ (sym (ap accepted_of c.in_ok-gtd7.ensures.0)) in
    omega (arith, f.0)

pub returns : goal.returns
returns c =
    let g = c.in_ok-gtd7.ensures in
    (g.0, drag_given _ _ _ _ _ _ c.units_in-units.result (sym (ap accepted_of g.0)) c.drag_on.ensures c.units_in-units.ensures g.1)
