-- The host's calls over bands: their slices' lengths are refused with 4 first, then they are the calls behind them.
use Rattle.std.specs.Prelude.{ℕ, cond, not, ◌&&◌, List, eqb, ℤ, length, Float}
use Rattle.refusals.specs.Refusals.{Answer, Refused, accepted_of}
use Rattle.refusals.specs.declared.Reason.TheVariants.{WrongLength}
use Rattle.bands.specs.Bands.{banded_answer, banded_after}
use Rattle.host_record.specs.Record.{record_of}

-- 4 for the row, the table, the fields, the array, in this order, each with the length needed; then the rest
unfoldable pub band_lengths_of : ℕ → List ℤ → List Float → List Float → Answer → Answer
band_lengths_of len t f l rest =
    cond (not (eqb len 11)) (Refused WrongLength 11)
    (cond (not (eqb (length t) 1601)) (Refused WrongLength 1601)
    (cond (not (eqb (length f) 8)) (Refused WrongLength 8)
    (cond (not (eqb (length l) 0) && not (eqb (length l) 7)) (Refused WrongLength 7) rest)))

-- then the density's answer
unfoldable pub host_banded : List ℤ → ℤ → ℤ → ℤ → List Float → List Float → ℕ → Answer
host_banded t metre year doy f l len = band_lengths_of len t f l (banded_answer t metre (record_of year doy f l) len)

-- the lent row afterwards
unfoldable pub host_banded_row : List ℤ → ℤ → ℤ → ℤ → List Float → List Float → List Float → List Float
host_banded_row t metre year doy f l xs =
    cond (accepted_of (host_banded t metre year doy f l (length xs))) (banded_after t metre (record_of year doy f l) xs) xs
