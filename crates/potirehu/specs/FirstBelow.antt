-- The host's first altitude thin enough: 4 for the row and for the record's slices, then what the call answers.
use Rattle.std.specs.Prelude.{ℕ, cond, List, ℤ, length, Float, Err, None, Ok, Some}
use Rattle.first_below_list.specs.FirstBelowList.{First}
use Rattle.refusals.specs.Refusals.{accepted_of, number_of, refused_or}
use Rattle.first_below.specs.FirstBelow.{first_answer, first_after}
use Rattle.host_record.specs.Record.{packed_of, record_of}
use Rattle.potirehu.specs.Potirehu.{slices_of}

-- an answer as one number: the index, 2^32 - 1 for none, or the refusal's number times 2^32 and its place
abbrev pub first_code : First → ℕ
first_code (Ok (Some k)) = k
first_code (Ok None) = 4294967295
first_code (Err r) = packed_of (number_of r.reason) r.place

unfoldable pub host_first : ℤ → ℤ → List Float → List Float → List ℤ → List Float → Float → ℕ → First
host_first year doy f l w alts level len = refused_or (slices_of 11 f l w len) (first_answer w (record_of year doy f l) alts level len)

-- the lent row afterwards
unfoldable pub host_first_row : ℤ → ℤ → List Float → List Float → List ℤ → List Float → Float → List Float → List Float
host_first_row year doy f l w alts level xs =
    cond (accepted_of (slices_of 11 f l w (length xs))) (first_after w (record_of year doy f l) alts level xs) xs
