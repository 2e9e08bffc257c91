-- gtd7d of a station that its calls gave is the one-altitude gtd7d on the record and the row as they then are.
use Rattle.std.specs.Prelude.{◌≡◌, refl, Bool, true, false, cond, List, ℤ, pos, length, get_or, Float}
use Rattle.std.proofs.Common.{sym, ◌∙◌}
use Rattle.refusals.specs.Refusals.{Accepted, accepted_of}
use Rattle.setting.specs.declared.Input.{Input}
use Rattle.setting.specs.Switches.{is_one, on_off, sw_at}
use Rattle.acceptance.specs.Acceptance.{with_alt_of}
use Rattle.atmosphere.specs.Atmosphere.{eleven_of, answer_of, row_after}
use Rattle.shutoff.specs.Shut.{Alike}
use Rattle.shutoff.proofs.Theorems.{alike_at}
use Rattle.drag_sum.specs.DragSum.{dragged_of}
use Rattle.drag.specs.Drag.{drag_of, drag_after}
use Rattle.drag.specs.Theorems.{demand_3_drag}
use Rattle.station_record.specs.Record.{station_whole}
use Rattle.station_answer.specs.Answers.{altitude_answer}
use Rattle.station.specs.Station.{station_numbers, altitude_row, altitude_drag}
use Rattle.station.proofs.Theorems.{Held, Call, held_after, station_after, kept_station, altitude_told}

-- where the row is written, the sum sees what is written
seen : (b : Bool) (f : List Float → List Float) (x r : List Float) → cond b (f x) r ≡ cond b (f (cond b x r)) r
seen true f x r = refl
seen false f x r = refl

entry_0 : (w : List ℤ) (n : Input) → on_off (is_one (get_or (station_whole w n) 3 (pos 0))) ≡ sw_at w 0
unfolding station_whole
entry_0 w n = refl

-- gtd7d of a station is its gtd7 with d[5] summed again
pub summed : (whole : List ℤ) (xs : List Float) (z : Float) (row : List Float)
    → altitude_drag whole xs z row
    ≡ cond (accepted_of (altitude_answer (length row) whole (length xs) z)) (dragged_of (on_off (is_one (get_or whole 3 (pos 0)))) (altitude_row whole xs z row)) row
unfolding altitude_drag altitude_row
summed whole xs z row = seen (accepted_of (altitude_answer (length row) whole (length xs) z)) (dragged_of (on_off (is_one (get_or whole 3 (pos 0))))) _ row

-- An altitude of a station that holds a record: gtd7d's row with that altitude; the answer is `altitude-told`'s
pub drag_told : (w : List ℤ) (n : Input) (z : Float) (row : List Float) → Held w n
    → altitude_drag (station_whole w n) (station_numbers w n) z row ≡ drag_after w (with_alt_of n z) row
unfolding drag_after drag_of row_after
drag_told w n z row h =
    let t = altitude_told w n z row h in
    summed (station_whole w n) (station_numbers w n) z row
    ∙ rw (t.0, t.1, entry_0 w n)
    (sym (seen (accepted_of (answer_of w (with_alt_of n z) (length row))) (dragged_of (sw_at w 0)) (eleven_of w (with_alt_of n z)) row))

-- the same after any calls: the record and the row as they then are
pub drag_kept : (w : List ℤ) (n : Input) (cs : List Call) (z : Float) (row : List Float) → Held w n
    → altitude_drag (station_after (station_whole w n) (station_numbers w n) cs).0 (station_after (station_whole w n) (station_numbers w n) cs).1 z row
    ≡ drag_after (held_after w n cs).0 (with_alt_of (held_after w n cs).1 z) row
drag_kept w n cs z row h =
    let r = kept_station w n cs h in
    rw r.0 (drag_told (held_after w n cs).0 (held_after w n cs).1 z row r.1)

-- Demand 3 for gtd7d of stations, as `demand-3-station` has it for gtd7.
pub demand_3_station_drag : (w : List ℤ) (a b : Input) (z : Float) (xs ys : List Float)
    → Alike w a b
    → Held w a
    → Held w b
    → altitude_answer (length xs) (station_whole w a) (length (station_numbers w a)) z ≡ Accepted
    → altitude_answer (length ys) (station_whole w b) (length (station_numbers w b)) z ≡ Accepted
    → (altitude_drag (station_whole w a) (station_numbers w a) z xs ≡ altitude_drag (station_whole w b) (station_numbers w b) z ys)
    × (altitude_drag (station_whole w a) (station_numbers w a) z xs ≡ drag_of w (with_alt_of a z))
    × (altitude_drag (station_whole w b) (station_numbers w b) z ys ≡ drag_of w (with_alt_of b z))
demand_3_station_drag w a b z xs ys like ha hb ea eb =
    let p = drag_told w a z xs ha in
    let q = drag_told w b z ys hb in
    let ta = sym (altitude_told w a z xs ha).0 ∙ ea in
    let tb = sym (altitude_told w b z ys hb).0 ∙ eb in
    let d = demand_3_drag w (with_alt_of a z) (with_alt_of b z) xs ys (alike_at w a b z like) ta tb in
    (p ∙ d.0 ∙ sym q, p ∙ d.1, q ∙ d.2)
