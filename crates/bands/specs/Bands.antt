-- Document 02, W-208: a density in a table of bands.
use Rattle.std.specs.Prelude.{ℕ, cond, not, Option, None, Some, List, eqb, ℤ, length, Float}
use Rattle.refusals.specs.Refusals.{Answer, Refused, accepted_of}
use Rattle.refusals.specs.declared.Reason.TheVariants.{OutOfRange, WrongLength}
use Rattle.setting.specs.declared.Input.{Input}
use Rattle.acceptance.specs.Acceptance.{with_alt_of}
use Rattle.atmosphere.specs.Atmosphere.{answer_of, eleven_of}
use Rattle.band_table.specs.Table.{band_row}
use Rattle.band_table.specs.Kilometres.{kilometres_of_metres}

-- the record at a metre, in km
abbrev pub at_metre : Input → ℤ → Input
at_metre n metre = with_alt_of n (kilometres_of_metres metre)

-- the one-altitude call by the row of a metre: 3 at 3 where it has none
abbrev pub answer_in : Option (List ℤ) → Input → ℕ → Answer
answer_in None n len = Refused OutOfRange 3
answer_in (Some w) n len = answer_of w n len

-- the call's eleven numbers by the row of a metre; none are written where it has none
abbrev pub eleven_in : Option (List ℤ) → Input → List Float → List Float
eleven_in None n xs = xs
eleven_in (Some w) n xs = eleven_of w n

-- 4 for a row that is not of length 11; 3 at 3 for a metre outside 0 to 2,500,000, or in no band; then the one-altitude call with the band's row
-- at metres / 1000 km
unfoldable pub banded_answer : List ℤ → ℤ → Input → ℕ → Answer
banded_answer t metre n len =
    cond (not (eqb len 11)) (Refused WrongLength 11) (answer_in (band_row t metre) (at_metre n metre) len)

-- the lent row afterwards: the one-altitude call's eleven numbers where the call is accepted, else as it was
unfoldable pub banded_after : List ℤ → ℤ → Input → List Float → List Float
banded_after t metre n xs =
    cond (accepted_of (banded_answer t metre n (length xs))) (eleven_in (band_row t metre) (at_metre n metre) xs) xs
