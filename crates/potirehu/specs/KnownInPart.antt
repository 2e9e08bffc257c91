-- The host's calls on what counts and on a record known in part: 4 for their slices, then what the calls behind them answer.
use Rattle.std.specs.Prelude.{ℕ, cond, not, List, eqb, ℤ, length, Float}
use Rattle.refusals.specs.Refusals.{Accepted, Answer, Refused, accepted_of}
use Rattle.refusals.specs.declared.Reason.TheVariants.{WrongLength}
use Rattle.known_record.specs.KnownRecord.{marks_of}
use Rattle.counts.specs.Counts.{counts_of}
use Rattle.known.specs.Known.{known_answer, known_row}
use Rattle.host_record.specs.Record.{record_of}
use Rattle.potirehu.specs.Potirehu.{slices_of}

-- 4 for the lent fields first, then for the row
unfoldable pub host_counts : List ℤ → ℕ → Answer
host_counts w len = cond (not (eqb len 17)) (Refused WrongLength 17) (cond (not (eqb (length w) 24)) (Refused WrongLength 24) Accepted)

-- the lent fields afterwards: 1 where the field counts, else 0
unfoldable pub host_counted : List ℤ → List ℤ → List ℤ
host_counted w xs = cond (accepted_of (host_counts w (length xs))) (marks_of (counts_of w)) xs

-- 4 for the row first, then for the other slices, then the call's answer
unfoldable pub host_known : ℕ → ℤ → ℤ → List Float → List Float → List ℤ → ℕ → Answer
host_known known year doy f l w len =
    cond (not (accepted_of (slices_of 11 f l w len))) (slices_of 11 f l w len) (known_answer known w (record_of year doy f l) len)

-- the lent row afterwards
unfoldable pub host_known_row : ℕ → ℤ → ℤ → List Float → List Float → List ℤ → List Float → List Float
host_known_row known year doy f l w xs =
    cond (accepted_of (slices_of 11 f l w (length xs))) (known_row known w (record_of year doy f l) xs) xs
