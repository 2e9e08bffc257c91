-- The tests by which a row out of the stored numbers takes its way, and the parts that altitudes read.
use Rattle.std.specs.Prelude.{Bool, true, false, cond, not, ◌&&◌, ◌||◌, List, [], ◌∷◌, Float}
use Rattle.std.specs.Float.Ieee.{lt, le}
use Rattle.numbers.specs.Arithmetic.{◌‼◌}
use Rattle.numbers.specs.Literals.{32·5, 72·5, 300·0}
use Rattle.tables.specs.Tables.{pdl_t1}
use Rattle.stored_parts.specs.declared.Parts.{Parts}

-- ---- the tests

-- above 72.5 km
abbrev pub above_summit : Float → Bool
above_summit alt = lt 72·5 alt

-- at 72.5 km or above it
abbrev pub from_summit : Float → Bool
from_summit alt = le 72·5 alt

-- above za
abbrev pub above_za : Float → Bool
above_za alt = lt (pdl_t1 ‼ 15) alt

-- below za
abbrev pub below_za : Float → Bool
below_za alt = lt alt (pdl_t1 ‼ 15)

-- below 300 km
abbrev pub below300 : Float → Bool
below300 alt = lt alt 300·0

-- ---- the parts

-- the parts that an altitude reads
unfoldable pub parts_at : Float → Parts
parts_at alt =
    record {
      summit = from_summit alt && not (above_summit alt);
      below = not (from_summit alt);
      tropo = lt alt 32·5;
      low = above_summit alt && not (above_za alt);
      mid = above_za alt && below300 alt;
      top = above_za alt && not (below300 alt);
    }

unfoldable pub all_parts : Parts
all_parts = record { summit = true; below = true; tropo = true; low = true; mid = true; top = true }

unfoldable pub no_parts : Parts
no_parts = record { summit = false; below = false; tropo = false; low = false; mid = false; top = false }

unfoldable pub either_parts : Parts → Parts → Parts
either_parts a b =
    record {
      summit = a.summit || b.summit;
      below = a.below || b.below;
      tropo = a.tropo || b.tropo;
      low = a.low || b.low;
      mid = a.mid || b.mid;
      top = a.top || b.top;
    }

-- whether the part that an altitude's row is read from is among the parts h: at 72.5 km the summit; below it the footing, with the troposphere's nodes
-- below 32.5 km; else its region
unfoldable pub serves_of : Parts → Float → Bool
serves_of h alt =
    cond (not (above_summit alt))
    (cond (from_summit alt) h.summit (h.below && (not (lt alt 32·5) || h.tropo)))
    (cond (not (above_za alt)) h.low (cond (below300 alt) h.mid h.top))

-- the parts q, the footing with the troposphere's nodes where h has them
unfoldable pub reached_of : Parts → Parts → Parts
reached_of q h = record { summit = q.summit; below = q.below; tropo = q.tropo || (q.below && h.tropo); low = q.low; mid = q.mid; top = q.top }

-- the parts that one of the altitudes reads, or that were read before
unfoldable pub parts_from : Parts → List Float → Parts
parts_from p [] = p
parts_from p (z ∷ zs) = parts_from (either_parts p (parts_at z)) zs
