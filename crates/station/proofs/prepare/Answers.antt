-- `prepare` meets its contract.
use Rattle.std.specs.Prelude.{Err}
use Rattle.std.proofs.Common.{sym, ap, ◌∙◌, arith, rules}
use Rattle.std.proofs.lemmas.Result.{err_from_is_err_and}
use Rattle.refusals.specs.Refusals.{accepted_of}
use Rattle.station.specs.Station.{filled_of}
use Rattle.station_answer.proofs.Laws.{station_fits}
use Rattle.station.proofs.Laws.{refused, taken, filled_all}
use Rattle.station.proofs.prepare.Goals as goal

pub returns-in_err-station_answer : goal.returns-in_err-station_answer
returns-in_err-station_answer c =
    let p = err_from_is_err_and c.from_residual.result c.from_residual.ensures.1 in
    let k = refused _ _ _ _ (sym (ap accepted_of c.in_err-station_answer.ensures)) in
    (p.1 ∙ ap Err p.2 ∙ c.in_err-station_answer.ensures, k.0, k.1)

pub put_whole-requires : goal.put_whole-requires
put_whole-requires c = (station_fits _ _ _ _ (sym (ap accepted_of c.in_ok-station_answer.ensures))).0

pub fill-requires : goal.fill-requires
fill-requires c = (station_fits _ _ _ _ (sym (ap accepted_of c.in_ok-station_answer.ensures))).1

pub returns : goal.returns
returns c =
    let o = sym (ap accepted_of c.in_ok-station_answer.ensures) in
    let f = c.fill.ensures ∙ rw (c.need_of.ensures, c.all_parts.ensures) (filled_all _ _ _ (station_fits _ _ _ _ o).1) in
    let k = taken c.args.w c.args.n c.args.whole.now c.args.numbers.now c.with_alt-m.result _ _ o c.with_alt-m.ensures c.put_whole.ensures f in
    (c.in_ok-station_answer.ensures, k.0, k.1)
