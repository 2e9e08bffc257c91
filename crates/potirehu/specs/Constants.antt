-- The host's call with nine constants: what its slices and the constants meet first, then the call behind it.
use Rattle.std.specs.Prelude.{ℕ, cond, List, ℤ, length, Float}
use Rattle.refusals.specs.Refusals.{Accepted, Answer, accepted_of}
use Rattle.parameter_answer.specs.ParameterAnswer.{answer_with}
use Rattle.varied_constants.specs.VariedConstants.{row_with}
use Rattle.host_record.specs.Record.{record_of}
use Rattle.host_record.specs.Nine.{nine_of, lengths_with}

-- 4 for the nine, 16, 4 for the row and for the record's slices, then the call's answer
unfoldable pub host_with : List Float → ℤ → ℤ → List Float → List Float → List ℤ → ℕ → Answer
host_with x year doy f l w len = lengths_with x len f l w (answer_with (nine_of x) w (record_of year doy f l) len)

-- the lent row afterwards
unfoldable pub host_with_row : List Float → ℤ → ℤ → List Float → List Float → List ℤ → List Float → List Float
host_with_row x year doy f l w xs =
    cond (accepted_of (lengths_with x (length xs) f l w Accepted)) (row_with (nine_of x) w (record_of year doy f l) xs) xs
