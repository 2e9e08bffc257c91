-- Document 02's W-206, where the density passes a level: its refusals in order, the list, and the lent buffer afterwards.
use Rattle.std.specs.Prelude.{ℕ, ◌*◌, cond, not, List, map, ltb, ℤ, length, Float, Err, Ok}
use Rattle.numbers.specs.Arithmetic.{◌‼◌}
use Rattle.refusals.specs.Refusals.{Accepted, Answer, Refused, accepted_of, refused_or}
use Rattle.refusals.specs.declared.Reason.TheVariants.{AltitudesFall}
use Rattle.setting.specs.declared.Input.{Input}
use Rattle.acceptance.specs.Acceptance.{with_alt_of}
use Rattle.atmosphere.specs.Atmosphere.{eleven_of}
use Rattle.altitudes.specs.Altitudes.{column_answer}
use Rattle.crossings_list.specs.CrossingsList.{crossings_of, list_answer, list_after, altitudes_rise, Listing}

-- d[5] of the one-altitude call at an altitude
unfoldable pub total_density : List ℤ → Input → Float → Float
total_density w n z = eleven_of w (with_alt_of n z) ‼ 5

-- at each altitude
unfoldable pub densities_of : List ℤ → Input → List Float → List Float
densities_of w n alts = map (total_density w n) alts

-- the list: the index of the lower of each pair of neighbours with d[5] at or above the level on one side and below on the other, lowest first
unfoldable pub list_of : List ℤ → Input → List Float → Float → List ℕ
list_of w n alts level = crossings_of level (densities_of w n alts)

-- after the column's refusals 8, altitudes that don't rise, at the lowest index not above the one before it
unfoldable pub after_column : Answer → List Float → Answer
after_column a alts = cond (not (accepted_of a)) a (cond (ltb (altitudes_rise alts) (length alts)) (Refused AltitudesFall (altitudes_rise alts)) Accepted)

-- the column's own refusals, then 8; no rows are lent, so the column's buffer is taken to have the length needed, and 4 can't occur
unfoldable pub crossings_checked : List ℤ → Input → List Float → Answer
crossings_checked w n alts = after_column (column_answer w n alts (11 * length alts)) alts

-- the answer: those refusals, then 9 for a buffer of len numbers that is shorter than the list, at the length needed; else the list's length
unfoldable pub crossings_answer : List ℤ → Input → List Float → Float → ℕ → Listing
crossings_answer w n alts level len = refused_or (crossings_checked w n alts) (list_answer (list_of w n alts level) len)

-- the lent buffer afterwards: the list at its start and the rest as it was; all as it was where the call is refused
unfoldable pub crossings_after : List ℤ → Input → List Float → Float → List ℕ → List ℕ
crossings_after w n alts level xs = cond (accepted_of (crossings_checked w n alts)) (list_after (list_of w n alts level) xs) xs
