-- The refusals of the one-altitude call that depend on the record: document 01's 2, then 1, then 3; then document 02's 10.
use Rattle.std.specs.Prelude.{ℕ, suc, Bool, true, false, cond, not, ◌&&◌, List, [], ◌∷◌, leb, ltb, ℤ, pos, negsuc, Option, Some, None, Float}
use Rattle.std.specs.Float.Ieee.{neg, lt, le}
use Rattle.numbers.specs.Arithmetic.{◌‼◌}
use Rattle.numbers.specs.Literals.{0·0, 24·0, 48·0, 72·5, 90·0, 400·0, 1000·0, 2500·0, 86400·0}
use Rattle.numbers.specs.Tests.{finite_of}
use Rattle.refusals.specs.Refusals.{Accepted, Answer, Refused, accepted_of}
use Rattle.refusals.specs.declared.Reason.TheVariants.{HistoryLacking, NotFinite, NotMixed, OutOfRange}
use Rattle.setting.specs.declared.Input.{Input}
use Rattle.acceptance.specs.declared.Ranged.{Ranged}
use Rattle.setting.specs.ApHistory.{absent_of, lacks_history_of}
use Rattle.setting.specs.Switches.{given, is_one}

-- lo ≤ x ≤ hi
unfoldable pub within_of : Float → Float → Float → Bool
within_of lo hi x = le lo x && le x hi

abbrev range : Float → Float → Float → Ranged
range lo hi x = record { lo = lo; hi = hi; x = x }

-- the fields from sec to ap, each with its range
abbrev pub ranges_of : Input → List Ranged
ranges_of n =
    range 0·0 86400·0 n.sec ∷ range 0·0 2500·0 n.alt ∷ range (neg 90·0) 90·0 n.g_lat ∷ range (neg 1000·0) 1000·0 n.g_long ∷
    range (neg 24·0) 48·0 n.lst ∷ range 0·0 1000·0 n.f107a ∷ range 0·0 1000·0 n.f107 ∷ range 0·0 400·0 n.ap ∷ []

-- 1 ≤ doy ≤ 366
abbrev pub day_within : ℤ → Bool
day_within (pos d) = leb 1 d && leb d 366
day_within (negsuc d) = false

-- the place of the first test that passes, counted from k, else rest
abbrev pub lowest : ℕ → List Bool → ℕ → ℕ
lowest k [] rest = rest
lowest k (b ∷ bs) rest = cond b k (lowest (suc k) bs rest)

-- fields 10 to 16, the array's values, where it is there; 17 is no field
unfoldable pub array_unfit_of : Bool → List Float → ℕ
array_unfit_of there a =
    lowest 10
    ((there && not (finite_of (a ‼ 0))) ∷ (there && not (finite_of (a ‼ 1))) ∷ (there && not (finite_of (a ‼ 2))) ∷
    (there && not (finite_of (a ‼ 3))) ∷ (there && not (finite_of (a ‼ 4))) ∷ (there && not (finite_of (a ‼ 5))) ∷
    (there && not (finite_of (a ‼ 6))) ∷ []) 17

-- for each field from 2 to 9, whether it is NaN or infinite
abbrev pub unfit_tests : Input → List Bool
unfit_tests n =
    not (finite_of n.sec) ∷ not (finite_of n.alt) ∷ not (finite_of n.g_lat) ∷ not (finite_of n.g_long) ∷
    not (finite_of n.lst) ∷ not (finite_of n.f107a) ∷ not (finite_of n.f107) ∷ not (finite_of n.ap) ∷ []

-- the lowest field that is NaN or infinite
unfoldable pub unfit_of : Input → ℕ
unfit_of n = lowest 2 (unfit_tests n) (array_unfit_of (not (absent_of n.history)) n.ap_array)

unfoldable pub array_outside_of : Bool → List Float → ℕ
array_outside_of there a =
    lowest 10
    ((there && not (within_of 0·0 400·0 (a ‼ 0))) ∷ (there && not (within_of 0·0 400·0 (a ‼ 1))) ∷
    (there && not (within_of 0·0 400·0 (a ‼ 2))) ∷ (there && not (within_of 0·0 400·0 (a ‼ 3))) ∷
    (there && not (within_of 0·0 400·0 (a ‼ 4))) ∷ (there && not (within_of 0·0 400·0 (a ‼ 5))) ∷
    (there && not (within_of 0·0 400·0 (a ‼ 6))) ∷ []) 17

-- for each field from 1 to 9, doy, sec, alt, g_lat, g_long, lst, f107a, f107, ap, whether it is out of range
abbrev pub outside_tests : Input → List Bool
outside_tests n =
    not (day_within n.doy) ∷
    not (within_of 0·0 86400·0 n.sec) ∷
    not (within_of 0·0 2500·0 n.alt) ∷
    not (within_of (neg 90·0) 90·0 n.g_lat) ∷
    not (within_of (neg 1000·0) 1000·0 n.g_long) ∷
    not (within_of (neg 24·0) 48·0 n.lst) ∷
    not (within_of 0·0 1000·0 n.f107a) ∷
    not (within_of 0·0 1000·0 n.f107) ∷
    not (within_of 0·0 400·0 n.ap) ∷ []

-- the lowest field out of range, the array's among them
unfoldable pub outside_of : Input → ℕ
outside_of n = lowest 1 (outside_tests n) (array_outside_of (not (absent_of n.history)) n.ap_array)

-- a place is one of the fields 0 to 16
unfoldable pub found_of : ℕ → Bool
found_of k = ltb k 17

-- that field, if it is one
abbrev pub field_at : ℕ → Option ℕ
field_at k = cond (found_of k) (Some k) None

-- 2, then 1, then 3, each with its place; accepted when none fits. A column's and a station's record is judged by these at altitude 0
unfoldable pub judged_of : List ℤ → Input → Answer
judged_of w n =
    cond (found_of (unfit_of n)) (Refused NotFinite (unfit_of n))
    (cond (lacks_history_of w n) (Refused HistoryLacking 10)
    (cond (found_of (outside_of n)) (Refused OutOfRange (outside_of n)) Accepted))

-- 'below 72.5 km .. wherever switch 15 isn't 1': N2 is not mixed at z, which needs it; one says whether switch 15, as given, is 1
unfoldable pub unmixed_of : Bool → Float → Bool
unmixed_of one z = not one && lt z 72·5

-- the one-altitude call's answer to a record: '10 comes after the range checks, place 3'
unfoldable pub record_answer : List ℤ → Input → Answer
record_answer w n =
    cond (not (accepted_of (judged_of w n))) (judged_of w n)
    (cond (unmixed_of (is_one (given w 15)) n.alt) (Refused NotMixed 3) Accepted)

-- the record with another altitude
unfoldable pub with_alt_of : Input → Float → Input
with_alt_of n z =
    record {
      year = n.year;
      doy = n.doy;
      sec = n.sec;
      alt = z;
      g_lat = n.g_lat;
      g_long = n.g_long;
      lst = n.lst;
      f107a = n.f107a;
      f107 = n.f107;
      ap = n.ap;
      history = n.history;
      ap_array = n.ap_array;
    }
