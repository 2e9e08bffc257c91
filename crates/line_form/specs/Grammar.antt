-- Document 01's line grammar, read from left to right: s is the line's bytes without the newline, k an index into it.
use Rattle.std.specs.Prelude.{ℕ, zero, suc, ◌+◌, ◌-◌, ◌*◌, Bool, true, false, cond, not, ◌&&◌, Option, None, Some, unwrap_or, option_map, option_and_then, List, [], ◌∷◌, ltb, leb, eqb, ℤ, pos, negsuc, length, get_or, set, replicate, Float}
use Rattle.std.specs.Float.{binary64}
use Rattle.std.specs.Float.Ieee.{of_int}
use Rattle.numbers.specs.Arithmetic.{◌⊘◌}
use Rattle.numbers.specs.Literals.{1000·0}
use Rattle.line_form.specs.declared.Digits.{Digits}
use Rattle.line_form.specs.declared.WholeNumber.{WholeNumber}
use Rattle.line_form.specs.declared.Reading.{Reading}
use Rattle.line_form.specs.declared.Run.{Run}
use Rattle.setting.specs.declared.Input.{Input}
use Rattle.setting.specs.declared.History.{History}
use Rattle.setting.specs.declared.History.TheVariants.{Absent, Present}

-- the line has the byte c at k
unfoldable pub here_of : List ℕ → ℕ → ℕ → Bool
here_of s k c = ltb k (length s) && eqb (get_or s k 0) c

-- the line has the bytes of a text from k on
unfoldable pub starts_of : List ℕ → ℕ → List ℕ → Bool
starts_of s k [] = true
starts_of s k (c ∷ cs) = here_of s k c && starts_of s (k + 1) cs

-- the decimal digit at k, if there is one, '0' to '9' being 48 to 57
unfoldable pub digit_of : List ℕ → ℕ → Option ℕ
digit_of s k = cond (ltb k (length s) && (leb 48 (get_or s k 0) && leb (get_or s k 0) 57)) (Some (get_or s k 0 - 48)) None

-- up to m digits from k on, after digits that make v
unfoldable pub more_of : ℕ → List ℕ → ℕ → ℕ → Digits
more_of zero s k v = record { size = v; next = k }
more_of (suc m) s k v = unwrap_or (option_map (λ d. more_of m s (k + 1) (10 * v + d)) (digit_of s k)) (record { size = v; next = k })

-- minus where the mark is there
abbrev pub with_sign : Bool → ℕ → ℤ
with_sign false n = pos n
with_sign true zero = pos 0
with_sign true (suc n) = negsuc n

-- nine digits at most, the first one not 0
unfoldable pub positive_of : Bool → List ℕ → ℕ → Option WholeNumber
positive_of minus s k =
    option_and_then
    (λ d. cond (eqb d 0) None (Some (record { value = with_sign minus (more_of 8 s (k + 1) d).size; next = (more_of 8 s (k + 1) d).next })))
    (digit_of s k)

-- a whole number: 0, or an optional minus and one to nine digits that do not begin with 0
unfoldable pub read_number : List ℕ → ℕ → Option WholeNumber
read_number s k =
    cond (here_of s k 48) (Some (record { value = pos 0; next = k + 1 }))
    (cond (here_of s k 45) (positive_of true s (k + 1)) (positive_of false s k))

-- whole thousandths
unfoldable pub thousandths_of : ℤ → Float
thousandths_of z = of_int binary64 z ⊘ 1000·0

unfoldable pub stopped_of : Reading → Reading
stopped_of r = record { ok = false; next = r.next; values = r.values }

-- m numbers, each after one space, put at i and on
unfoldable pub read_numbers : ℕ → List ℕ → ℕ → Reading → Reading
read_numbers zero s i r = r
read_numbers (suc m) s i r =
    cond (not (here_of s r.next 32)) (stopped_of r)
    (unwrap_or
    (option_map (λ n. read_numbers m s (i + 1) (record { ok = true; next = n.next; values = set r.values i n.value })) (read_number s (r.next + 1)))
    (stopped_of r))

-- a text, then m numbers, put at i and on
unfoldable pub field_of : List ℕ → List ℕ → ℕ → ℕ → Reading → Reading
field_of s text i m r =
    cond (not r.ok) r
    (cond (not (starts_of s r.next text)) (stopped_of r)
    (read_numbers m s i (record { ok = true; next = r.next + length text; values = r.values })))

-- a text that ends the line; the line has 511 bytes at most
unfoldable pub closed_of : List ℕ → List ℕ → Reading → Reading
closed_of s text r =
    record {
      ok = ltb (length s) 512 && (r.ok && (starts_of s r.next text && eqb (r.next + length text) (length s)));
      next = r.next;
      values = r.values;
    }

unfoldable pub start_of : Reading
start_of = record { ok = true; next = 0; values = replicate 41 (pos 0) }

-- (dnet dd dm zhm xmm xm)
unfoldable pub dnet_form_of : List ℕ → Reading
dnet_form_of s = closed_of s (41 ∷ []) (field_of s (40 ∷ 100 ∷ 110 ∷ 101 ∷ 116 ∷ []) 0 5 start_of)

-- (ccor alt r h1 zh)
unfoldable pub ccor_form_of : List ℕ → Reading
ccor_form_of s = closed_of s (41 ∷ []) (field_of s (40 ∷ 99 ∷ 99 ∷ 111 ∷ 114 ∷ []) 0 4 start_of)

-- (run (year ..) (doy ..) (sec ..) (alt ..)
unfoldable pub date_fields : List ℕ → Reading
date_fields s =
    -- ") (alt"
    field_of s (41 ∷ 32 ∷ 40 ∷ 97 ∷ 108 ∷ 116 ∷ []) 3 1
    -- ") (sec"
    (field_of s (41 ∷ 32 ∷ 40 ∷ 115 ∷ 101 ∷ 99 ∷ []) 2 1
    -- ") (doy"
    (field_of s (41 ∷ 32 ∷ 40 ∷ 100 ∷ 111 ∷ 121 ∷ []) 1 1
    -- "(run (year"
    (field_of s (40 ∷ 114 ∷ 117 ∷ 110 ∷ 32 ∷ 40 ∷ 121 ∷ 101 ∷ 97 ∷ 114 ∷ []) 0 1 start_of)))

-- .. (g_lat ..) (g_long ..) (lst ..)
unfoldable pub place_fields : List ℕ → Reading → Reading
place_fields s r =
    -- ") (lst"
    field_of s (41 ∷ 32 ∷ 40 ∷ 108 ∷ 115 ∷ 116 ∷ []) 6 1
    -- ") (g_long"
    (field_of s (41 ∷ 32 ∷ 40 ∷ 103 ∷ 95 ∷ 108 ∷ 111 ∷ 110 ∷ 103 ∷ []) 5 1
    -- ") (g_lat"
    (field_of s (41 ∷ 32 ∷ 40 ∷ 103 ∷ 95 ∷ 108 ∷ 97 ∷ 116 ∷ []) 4 1 r))

-- .. (f107a ..) (f107 ..) (ap ..)
unfoldable pub activity_fields : List ℕ → Reading → Reading
activity_fields s r =
    -- ") (ap"
    field_of s (41 ∷ 32 ∷ 40 ∷ 97 ∷ 112 ∷ []) 9 1
    -- ") (f107"
    (field_of s (41 ∷ 32 ∷ 40 ∷ 102 ∷ 49 ∷ 48 ∷ 55 ∷ []) 8 1
    -- ") (f107a"
    (field_of s (41 ∷ 32 ∷ 40 ∷ 102 ∷ 49 ∷ 48 ∷ 55 ∷ 97 ∷ []) 7 1 r))

unfoldable pub later_of : Reading → Reading → Reading
later_of a r = cond a.ok a r

-- .. (ap_array ..), which may be left out, and (switches ..) to the end of the line
unfoldable pub last_fields : List ℕ → Reading → Reading
last_fields s r =
    -- "))"
    closed_of s (41 ∷ 41 ∷ [])
    -- ") (switches"
    (field_of s (41 ∷ 32 ∷ 40 ∷ 115 ∷ 119 ∷ 105 ∷ 116 ∷ 99 ∷ 104 ∷ 101 ∷ 115 ∷ []) 17 24
    -- ") (ap_array"
    (later_of (field_of s (41 ∷ 32 ∷ 40 ∷ 97 ∷ 112 ∷ 95 ∷ 97 ∷ 114 ∷ 114 ∷ 97 ∷ 121 ∷ []) 10 7 r) r))

unfoldable pub run_form_of : List ℕ → Run
run_form_of s =
    let r = activity_fields s (place_fields s (date_fields s)) in
    record { array = starts_of s r.next (41 ∷ 32 ∷ 40 ∷ 97 ∷ 112 ∷ 95 ∷ 97 ∷ 114 ∷ 114 ∷ 97 ∷ 121 ∷ []); reading = last_fields s r }

-- m of the numbers, from i on
unfoldable pub values_from : List ℤ → ℕ → ℕ → List ℤ
values_from v zero i = []
values_from v (suc m) i = get_or v i (pos 0) ∷ values_from v m (i + 1)

unfoldable pub switches_of : Reading → List ℤ
switches_of r = values_from r.values 24 17

unfoldable pub thousandths_at : Reading → ℕ → Float
thousandths_at r i = thousandths_of (get_or r.values i (pos 0))

abbrev pub history_when : Bool → History
history_when true = Present
history_when false = Absent

unfoldable pub array_of : Reading → List Float
array_of r =
    thousandths_at r 10 ∷ thousandths_at r 11 ∷ thousandths_at r 12 ∷ thousandths_at r 13 ∷ thousandths_at r 14 ∷ thousandths_at r 15 ∷
    thousandths_at r 16 ∷ []

-- the record of a run form; year and doy are plain whole numbers
unfoldable pub input_of : Run → Input
input_of f =
    let r = f.reading in
    record {
      year = get_or r.values 0 (pos 0);
      doy = get_or r.values 1 (pos 0);
      sec = thousandths_at r 2;
      alt = thousandths_at r 3;
      g_lat = thousandths_at r 4;
      g_long = thousandths_at r 5;
      lst = thousandths_at r 6;
      f107a = thousandths_at r 7;
      f107 = thousandths_at r 8;
      ap = thousandths_at r 9;
      history = history_when f.array;
      ap_array = array_of r;
    }
