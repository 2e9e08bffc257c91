-- A record out of the host's numbers and slices, refused with 4 for their lengths, and an answer as one number.
use Rattle.std.specs.Prelude.{ℕ, ◌+◌, ◌*◌, ◌%◌, cond, not, ◌&&◌, List, [], ◌∷◌, eqb, ℤ, length, replicate, Float}
use Rattle.numbers.specs.Arithmetic.{◌‼◌}
use Rattle.numbers.specs.Literals.{0·0}
use Rattle.refusals.specs.Refusals.{Accepted, Answer, Refused, refusal_number, refusal_place}
use Rattle.refusals.specs.declared.Reason.TheVariants.{WrongLength}
use Rattle.setting.specs.declared.Input.{Input}
use Rattle.setting.specs.declared.History.{History}
use Rattle.setting.specs.declared.History.TheVariants.{Absent, Present}

abbrev pub packed_of : ℕ → ℕ → ℕ
packed_of n k = n % 4294967296 * 4294967296 + k % 4294967296

-- an answer as one number: the refusal's number times 2^32 and its place
unfoldable pub code_of : Answer → ℕ
code_of a = packed_of (refusal_number a) (refusal_place a)

-- the array is present where there are seven numbers
unfoldable pub history_of_length : ℕ → History
history_of_length n = cond (eqb n 7) Present Absent

-- its values, zeros where it is absent
unfoldable pub values_of : List Float → List Float
values_of l = cond (not (eqb (length l) 7)) (replicate 7 0·0) ((l ‼ 0) ∷ (l ‼ 1) ∷ (l ‼ 2) ∷ (l ‼ 3) ∷ (l ‼ 4) ∷ (l ‼ 5) ∷ (l ‼ 6) ∷ [])

-- fields: sec, alt, g_lat, g_long, lst, f107a, f107, ap
unfoldable pub record_of : ℤ → ℤ → List Float → List Float → Input
record_of year doy f l =
    record {
      year = year;
      doy = doy;
      sec = f ‼ 0;
      alt = f ‼ 1;
      g_lat = f ‼ 2;
      g_long = f ‼ 3;
      lst = f ‼ 4;
      f107a = f ‼ 5;
      f107 = f ‼ 6;
      ap = f ‼ 7;
      history = history_of_length (length l);
      ap_array = values_of l;
    }

-- 4 for the fields, the array, the switches, in this order, each with the length needed; then the rest
unfoldable pub lengths_of : List Float → List Float → List ℤ → Answer → Answer
lengths_of f l w rest =
    cond (not (eqb (length f) 8)) (Refused WrongLength 8)
    (cond (not (eqb (length l) 0) && not (eqb (length l) 7)) (Refused WrongLength 7)
    (cond (not (eqb (length w) 24)) (Refused WrongLength 24) rest))
