-- A record of which only some fields are known: the record with 0 in the others, and its refusals in order.
use Rattle.std.specs.Prelude.{◌≡◌, ℕ, zero, suc, ◌/◌, ◌%◌, ◌^◌, ◌<◌, Bool, true, false, cond, not, ◌&&◌, List, [], ◌∷◌, map, eqb, ℤ, pos, get_or, Float}
use Rattle.numbers.specs.Literals.{0·0}
use Rattle.refusals.specs.Refusals.{Accepted, Answer, Refused}
use Rattle.refusals.specs.declared.Reason.TheVariants.{HistoryLacking, NotFinite, NotMixed, OutOfRange}
use Rattle.setting.specs.declared.Input.{Input}
use Rattle.setting.specs.ApHistory.{absent_of, lacks_history_of}
use Rattle.setting.specs.Switches.{given, is_one}
use Rattle.acceptance.specs.Acceptance.{lowest, array_unfit_of, unfit_tests, unfit_of, array_outside_of, outside_tests, found_of, unmixed_of, record_answer}

-- 'bit k of known says that field k is known'
unfoldable pub known_at : ℕ → ℕ → Bool
known_at known k = eqb (known / 2 ^ k % 2) 1

-- all of the fields 0 to 9 are known
abbrev pub AllKnown : ℕ → Type 0
AllKnown known = (k : ℕ) → k < 10 → known_at known k ≡ true

-- a number where its field is known, else 0
abbrev pub whole_known : ℕ → ℕ → ℤ → ℤ
whole_known known k x = cond (known_at known k) x (pos 0)

abbrev pub float_known : ℕ → ℕ → Float → Float
float_known known k x = cond (known_at known k) x 0·0

-- 'the record with 0 in the fields that are not known'; the history is known where it is there
unfoldable pub only_known : ℕ → Input → Input
only_known known n =
    record {
      year = whole_known known 0 n.year;
      doy = whole_known known 1 n.doy;
      sec = float_known known 2 n.sec;
      alt = float_known known 3 n.alt;
      g_lat = float_known known 4 n.g_lat;
      g_long = float_known known 5 n.g_long;
      lst = float_known known 6 n.lst;
      f107a = float_known known 7 n.f107a;
      f107 = float_known known 8 n.f107;
      ap = float_known known 9 n.ap;
      history = n.history;
      ap_array = n.ap_array;
    }

-- the lowest of so many fields from k on of which a test holds, else rest
abbrev pub lowest_field : (ℕ → Bool) → ℕ → ℕ → ℕ → ℕ
lowest_field f k zero rest = rest
lowest_field f k (suc many) rest = cond (f k) k (lowest_field f (suc k) many rest)

-- field k is lacking: it counts and is not known; field 10, the history, where it is absent though the row asks for it
abbrev pub lacking : List Bool → ℕ → Bool → ℕ → Bool
lacking counts known noHistory k = cond (eqb k 10) noHistory (get_or counts k false && not (known_at known k))

-- the lowest of the fields 0 to 10 that is lacking, else 17
unfoldable pub lacking_field : List Bool → ℕ → Bool → ℕ
lacking_field counts known noHistory = lowest_field (lacking counts known noHistory) 0 11 17

-- tests from field k on, of the known fields alone
abbrev pub among : (ℕ → Bool) → ℕ → List Bool → List Bool
among f k [] = []
among f k (b ∷ bs) = (f k && b) ∷ among f (suc k) bs

-- 'the lowest known field that is NaN or infinite'
unfoldable pub unfit_known : ℕ → Input → ℕ
unfit_known known n = lowest 2 (among (known_at known) 2 (unfit_tests n)) (array_unfit_of (not (absent_of n.history)) n.ap_array)

-- 'the lowest known field out of range'
unfoldable pub outside_known : ℕ → Input → ℕ
outside_known known n = lowest 1 (among (known_at known) 1 (outside_tests n)) (array_outside_of (not (absent_of n.history)) n.ap_array)

-- 2 and 3 at known fields alone; 1 at the lowest field that counts and is not known; then 10
unfoldable pub known_refusal : List Bool → ℕ → List ℤ → Input → Answer
known_refusal counts known w n =
    cond (found_of (unfit_known known n)) (Refused NotFinite (unfit_known known n))
    (cond (found_of (lacking_field counts known (lacks_history_of w n))) (Refused HistoryLacking (lacking_field counts known (lacks_history_of w n)))
    (cond (found_of (outside_known known n)) (Refused OutOfRange (outside_known known n))
    (cond (unmixed_of (is_one (given w 15)) n.alt) (Refused NotMixed 3) Accepted)))

-- the same by way of the record with 0 in the fields that are not known: 2, then 1, then the one-altitude call's own answer, of which 3 and 10 are left
unfoldable pub filled_answer : List Bool → ℕ → List ℤ → Input → Answer
filled_answer counts known w filled =
    cond (found_of (unfit_of filled)) (Refused NotFinite (unfit_of filled))
    (cond (found_of (lacking_field counts known (lacks_history_of w filled))) (Refused HistoryLacking (lacking_field counts known (lacks_history_of w filled)))
    (record_answer w filled))

-- a mark as a number, for a host
abbrev pub mark_of : Bool → ℤ
mark_of b = cond b (pos 1) (pos 0)

-- 17 marks as numbers
unfoldable pub marks_of : List Bool → List ℤ
marks_of marks = map mark_of marks
