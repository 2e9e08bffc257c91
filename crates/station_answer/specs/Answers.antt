-- Document 02's refusals of a station's calls in order, and what a change makes of its record (W-201, W-213).
use Rattle.std.specs.Prelude.{ℕ, cond, not, List, eqb, ℤ, pos, length, drop, get_or, Float}
use Rattle.numbers.specs.Literals.{0·0, 2500·0}
use Rattle.numbers.specs.Tests.{finite_of}
use Rattle.refusals.specs.Refusals.{Accepted, Answer, Refused, accepted_of}
use Rattle.refusals.specs.declared.Reason.TheVariants.{NotFinite, NotMixed, OutOfRange, WrongLength}
use Rattle.setting.specs.declared.Input.{Input}
use Rattle.station_answer.specs.declared.Change.{Change}
use Rattle.station_answer.specs.declared.Change.TheVariants.{Fluxes, GLong, Lst, Move, Sec}
use Rattle.setting.specs.Switches.{is_one}
use Rattle.acceptance.specs.Acceptance.{within_of, day_within, judged_of, unmixed_of, with_alt_of}
use Rattle.station_record.specs.Record.{station_whole, record_in}

-- ---- preparing: 4 for a slice that has not its length, then what the record meets, its altitude not looked at

unfoldable pub station_answer : List ℤ → Input → ℕ → ℕ → Answer
station_answer w n ints count =
    cond (not (eqb ints 27)) (Refused WrongLength 27)
    (cond (not (eqb count 259)) (Refused WrongLength 259)
    (judged_of w (with_alt_of n 0·0)))

-- ---- an altitude: 4 for the row, for the two slices; 2 at place 3; 3 at place 1 where the doy that is stored is no day, as in slices that were never
-- prepared; 3, then 10 at place 3; doy stands at 1, switch 0 at 3 and switch 15 at 18

unfoldable pub altitude_answer : ℕ → List ℤ → ℕ → Float → Answer
altitude_answer len whole count alt =
    cond (not (eqb len 11)) (Refused WrongLength 11)
    (cond (not (eqb (length whole) 27)) (Refused WrongLength 27)
    (cond (not (eqb count 259)) (Refused WrongLength 259)
    (cond (not (finite_of alt)) (Refused NotFinite 3)
    (cond (not (day_within (get_or whole 1 (pos 0)))) (Refused OutOfRange 1)
    (cond (not (within_of 0·0 2500·0 alt)) (Refused OutOfRange 3)
    (cond (unmixed_of (is_one (get_or whole 18 (pos 0))) alt) (Refused NotMixed 3) Accepted))))))

-- ---- changes of sec, of lst, of g_long, of the fluxes, and the move, of sec, lst and g_long together

unfoldable pub with_sec_of : Input → Float → Input
with_sec_of n y = record { year = n.year; doy = n.doy; sec = y; alt = n.alt; g_lat = n.g_lat; g_long = n.g_long; lst = n.lst; f107a = n.f107a; f107 = n.f107; ap = n.ap; history = n.history; ap_array = n.ap_array }

unfoldable pub with_lst_of : Input → Float → Input
with_lst_of n y = record { year = n.year; doy = n.doy; sec = n.sec; alt = n.alt; g_lat = n.g_lat; g_long = n.g_long; lst = y; f107a = n.f107a; f107 = n.f107; ap = n.ap; history = n.history; ap_array = n.ap_array }

unfoldable pub with_long_of : Input → Float → Input
with_long_of n y = record { year = n.year; doy = n.doy; sec = n.sec; alt = n.alt; g_lat = n.g_lat; g_long = y; lst = n.lst; f107a = n.f107a; f107 = n.f107; ap = n.ap; history = n.history; ap_array = n.ap_array }

unfoldable pub with_fluxes_of : Input → Float → Float → Input
with_fluxes_of n a f = record { year = n.year; doy = n.doy; sec = n.sec; alt = n.alt; g_lat = n.g_lat; g_long = n.g_long; lst = n.lst; f107a = a; f107 = f; ap = n.ap; history = n.history; ap_array = n.ap_array }

abbrev pub change_of : Change → Input → Input
change_of (Sec y) n = with_sec_of n y
change_of (Lst y) n = with_lst_of n y
change_of (GLong y) n = with_long_of n y
change_of (Fluxes a f) n = with_fluxes_of n a f
change_of (Move s l g) n = with_long_of (with_lst_of (with_sec_of n s) l) g

-- 4 for the slices, then what the changed record meets
unfoldable pub change_answer : Change → List ℤ → List Float → Answer
change_answer c whole xs =
    cond (not (eqb (length whole) 27)) (Refused WrongLength 27)
    (cond (not (eqb (length xs) 259)) (Refused WrongLength 259)
    (judged_of (drop 3 whole) (change_of c (record_in whole xs))))

-- ---- a new switch row (W-213)

-- 4 for the slices, then what the station's record meets under the new row
unfoldable pub switches_answer : List ℤ → List ℤ → List Float → Answer
switches_answer w whole xs =
    cond (not (eqb (length whole) 27)) (Refused WrongLength 27)
    (cond (not (eqb (length xs) 259)) (Refused WrongLength 259)
    (judged_of w (record_in whole xs)))

-- the whole numbers with the row w, where the record is accepted under it
unfoldable pub row_taken : List ℤ → Input → List ℤ → List ℤ
row_taken w n whole = cond (accepted_of (judged_of w n)) (station_whole w n) whole
