-- The host's calls: their slices' lengths are refused with 4 first, then they are the calls behind them.
use Rattle.std.specs.Prelude.{ℕ, cond, not, List, eqb, ℤ, length, Float}
use Rattle.refusals.specs.Refusals.{Accepted, Answer, Refused, accepted_of}
use Rattle.refusals.specs.declared.Reason.TheVariants.{WrongLength}
use Rattle.atmosphere.specs.Atmosphere.{answer_of, row_after}
use Rattle.altitudes.specs.Altitudes.{column_answer}
use Rattle.column.specs.Column.{column_after}
use Rattle.station_answer.specs.Answers.{station_answer, switches_answer}
use Rattle.station.specs.Station.{whole_after, station_numbers_after, switched_whole, switched_numbers}
use Rattle.drag.specs.Drag.{drag_after}
use Rattle.host_record.specs.Record.{record_of, lengths_of}

-- 4 for a lent slice of len numbers that needs to have another length, then for the record's slices
unfoldable pub slices_of : ℕ → List Float → List Float → List ℤ → ℕ → Answer
slices_of needed f l w len = cond (not (eqb len needed)) (Refused WrongLength needed) (lengths_of f l w Accepted)

-- 4 for the row first, then for the other slices, then the one-altitude call's answer
unfoldable pub host_answer : ℤ → ℤ → List Float → List Float → List ℤ → ℕ → Answer
host_answer year doy f l w len =
    cond (not (eqb len 11)) (Refused WrongLength 11) (lengths_of f l w (answer_of w (record_of year doy f l) len))

-- the lent row afterwards
unfoldable pub host_row : ℤ → ℤ → List Float → List Float → List ℤ → List Float → List Float
host_row year doy f l w xs =
    cond (accepted_of (host_answer year doy f l w (length xs))) (row_after w (record_of year doy f l) xs) xs

-- the lent row after gtd7d, whose answer is the same
unfoldable pub host_drag : ℤ → ℤ → List Float → List Float → List ℤ → List Float → List Float
host_drag year doy f l w xs =
    cond (accepted_of (host_answer year doy f l w (length xs))) (drag_after w (record_of year doy f l) xs) xs

-- 4 for the slices, then the column's answer
unfoldable pub host_column : ℤ → ℤ → List Float → List Float → List ℤ → List Float → ℕ → Answer
host_column year doy f l w alts len = lengths_of f l w (column_answer w (record_of year doy f l) alts len)

-- the lent buffer afterwards
unfoldable pub host_rows : ℤ → ℤ → List Float → List Float → List ℤ → List Float → List Float → List Float
host_rows year doy f l w alts xs =
    cond (accepted_of (host_column year doy f l w alts (length xs))) (column_after w (record_of year doy f l) alts xs) xs

-- ---- a station: 4 for its two slices, for the record's slices, then what preparing answers

unfoldable pub host_station : ℤ → ℤ → List Float → List Float → List ℤ → ℕ → ℕ → Answer
host_station year doy f l w ints count =
    cond (not (eqb ints 27)) (Refused WrongLength 27)
    (cond (not (eqb count 259)) (Refused WrongLength 259)
    (lengths_of f l w (station_answer w (record_of year doy f l) ints count)))

-- its slices afterwards
unfoldable pub host_whole : ℤ → ℤ → List Float → List Float → List ℤ → List ℤ → ℕ → List ℤ
host_whole year doy f l w ys count =
    cond (accepted_of (host_station year doy f l w (length ys) count)) (whole_after w (record_of year doy f l) ys count) ys

unfoldable pub host_numbers : ℤ → ℤ → List Float → List Float → List ℤ → ℕ → List Float → List Float
host_numbers year doy f l w ints xs =
    cond (accepted_of (host_station year doy f l w ints (length xs))) (station_numbers_after w (record_of year doy f l) ints xs) xs

-- a new switch row: 4 for the station's two slices, for the row, then what the station answers
unfoldable pub host_switches : List ℤ → List ℤ → List Float → Answer
host_switches w whole xs =
    cond (not (eqb (length whole) 27)) (Refused WrongLength 27)
    (cond (not (eqb (length xs) 259)) (Refused WrongLength 259)
    (cond (not (eqb (length w) 24)) (Refused WrongLength 24)
    (switches_answer w whole xs)))

-- its slices afterwards
unfoldable pub host_switched_whole : List ℤ → List ℤ → List Float → List ℤ
host_switched_whole w whole xs = cond (accepted_of (host_switches w whole xs)) (switched_whole w whole xs) whole

unfoldable pub host_switched_numbers : List ℤ → List ℤ → List Float → List Float
host_switched_numbers w whole xs = cond (accepted_of (host_switches w whole xs)) (switched_numbers w whole xs) xs
