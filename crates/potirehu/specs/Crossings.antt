-- The host's crossings: 4 for the record's slices, then what the call answers.
use Rattle.std.specs.Prelude.{ℕ, cond, List, ℤ, Float, Err, Ok}
use Rattle.crossings_list.specs.CrossingsList.{Listing}
use Rattle.refusals.specs.Refusals.{Accepted, accepted_of, number_of, refused_or}
use Rattle.crossings.specs.Crossings.{crossings_answer, crossings_after}
use Rattle.host_record.specs.Record.{packed_of, record_of, lengths_of}

-- an answer as one number: the list's length, or the refusal's number times 2^32 and its place
abbrev pub listing_code : Listing → ℕ
listing_code (Ok m) = m
listing_code (Err r) = packed_of (number_of r.reason) r.place

unfoldable pub host_crossings : ℤ → ℤ → List Float → List Float → List ℤ → List Float → Float → ℕ → Listing
host_crossings year doy f l w alts level len =
    refused_or (lengths_of f l w Accepted) (crossings_answer w (record_of year doy f l) alts level len)

-- the lent buffer afterwards
unfoldable pub host_list : ℤ → ℤ → List Float → List Float → List ℤ → List Float → Float → List ℕ → List ℕ
host_list year doy f l w alts level xs =
    cond (accepted_of (lengths_of f l w Accepted)) (crossings_after w (record_of year doy f l) alts level xs) xs
