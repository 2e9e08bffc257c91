-- The numbers of a station in their three parts, and that under a new row and after a change of sec they are what preparing gives.
use Rattle.std.specs.Prelude.{ℕ, ◌+◌, ◌<◌, ◌≡◌, refl, Bool, true, false, cond, List, ◌++◌, ℤ, length, take, drop, Float}
use Rattle.std.proofs.Common.{sym, ap, ap₂, ◌∙◌, append_assoc, take-append-drop, take_at, drop_at, drop-drop}
use Rattle.std.proofs.Math.Seq.{take-length}
use Rattle.setting.specs.declared.Input.{Input}
use Rattle.setting.specs.Switches.{given, sw_of, swc_of}
use Rattle.views.specs.View.{plain_of, view_of}
use Rattle.switch_rows.specs.Rows.{same_expansions}
use Rattle.switch_rows.specs.Same.{same_rows, outer_entries}
use Rattle.expansion_values.specs.ExpansionValues.{expansion_values_of}
use Rattle.plan.specs.declared.ExpansionValues.{ExpansionValues}
use Rattle.station_values.specs.StationValues.{expansion_numbers, expansion_values_in, globe7_sets, expansion_values_back}
use Rattle.station_values.specs.Independent.{expansion_values_agree}
use Rattle.station_values.specs.Seconds.{glob7s_kept, globe7_alone}
use Rattle.stored_parts.specs.Parts.{all_parts}
use Rattle.stored.specs.Stored.{need_of}
use Rattle.stored.specs.Rows.{grown, all_length}
use Rattle.station_record.specs.Record.{record_numbers}
use Rattle.station_answer.specs.Answers.{with_sec_of}
use Rattle.station.specs.Station.{held_of, station_numbers, sec_filled, refilled_of, renewed_of}

abbrev pub expansion_values_held : List ℤ → Input → ExpansionValues
expansion_values_held w n = expansion_values_of (view_of w n) (need_of all_parts)

pub record_fourteen : (n : Input) → length (record_numbers n) ≡ 14
unfolding record_numbers
record_fourteen n = refl

pub twenty_five : (l : ExpansionValues) → length (expansion_numbers l) ≡ 25
unfolding expansion_numbers
twenty_five l = refl

front : (w : List ℤ) (n : Input) (l : ExpansionValues) → length (record_numbers n ++ held_of w n l) ≡ 234
unfolding held_of
front w n l = all_length all_parts _ _ l (record_numbers n) (record_fourteen n)

numbers_split : (w : List ℤ) (n : Input) → station_numbers w n ≡ (record_numbers n ++ held_of w n (expansion_values_held w n)) ++ expansion_numbers (expansion_values_held w n)
unfolding station_numbers
numbers_split w n = sym (append_assoc (record_numbers n) (held_of w n (expansion_values_held w n)) (expansion_numbers (expansion_values_held w n)))

pub numbers_long : (w : List ℤ) (n : Input) → length (station_numbers w n) ≡ 259
numbers_long w n =
    ap length (numbers_split w n) ∙ grown (record_numbers n ++ held_of w n (expansion_values_held w n)) (expansion_numbers (expansion_values_held w n)) 234 25 (front w n (expansion_values_held w n)) (twenty_five (expansion_values_held w n))

pub numbers_front : (w : List ℤ) (n : Input) → take 234 (station_numbers w n) ≡ record_numbers n ++ held_of w n (expansion_values_held w n)
numbers_front w n = ap (take 234) (numbers_split w n) ∙ take_at (record_numbers n ++ held_of w n (expansion_values_held w n)) (expansion_numbers (expansion_values_held w n)) 234 (front w n (expansion_values_held w n))

numbers_behind : (w : List ℤ) (n : Input) → drop 234 (station_numbers w n) ≡ expansion_numbers (expansion_values_held w n)
numbers_behind w n = ap (drop 234) (numbers_split w n) ∙ drop_at (record_numbers n ++ held_of w n (expansion_values_held w n)) (expansion_numbers (expansion_values_held w n)) 234 (front w n (expansion_values_held w n))

numbers_first : (w : List ℤ) (n : Input) → take 14 (station_numbers w n) ≡ record_numbers n
unfolding station_numbers
numbers_first w n = take_at (record_numbers n) _ 14 (record_fourteen n)

all_25 : (k : List Float) → length k ≡ 25 → take 25 k ≡ k
all_25 k e = ap (λ (i : ℕ). take i k) (sym e) ∙ take-length k

-- numbers that begin with a record's and end with 25
pub refilled_from : (w : List ℤ) (n : Input) (xs k : List Float) → take 14 xs ≡ record_numbers n → drop 234 xs ≡ k → length k ≡ 25
    → refilled_of w n xs ≡ record_numbers n ++ (held_of w n (expansion_values_in k) ++ k)
unfolding refilled_of
refilled_from w n xs k e f g = rw (e, f, all_25 k g)

-- numbers that begin with a record's and end with the expansions' values
pub refilled_is : (w : List ℤ) (n : Input) (xs : List Float) (l : ExpansionValues) → take 14 xs ≡ record_numbers n → drop 234 xs ≡ expansion_numbers l
    → refilled_of w n xs ≡ record_numbers n ++ (held_of w n l ++ expansion_numbers l)
refilled_is w n xs l e f =
    refilled_from w n xs (expansion_numbers l) e f (twenty_five l) ∙ ap (λ (v : ExpansionValues). record_numbers n ++ (held_of w n v ++ expansion_numbers l)) (expansion_values_back l)

-- The expansions' values are the same under rows whose entries 1 to 14 have the same effects
pub same_expansion_values : (w u : List ℤ) (n : Input) → same_expansions w u ≡ true → expansion_values_held w n ≡ expansion_values_held u n
unfolding view_of
same_expansion_values w u n e =
    let s = same_rows w u e in
    expansion_values_agree (view_of w n) (sw_of u) (swc_of u) (need_of all_parts) (λ k q. (s k q).0) (λ k q. (s k q).1)

refilled_told : (w u : List ℤ) (n : Input) → same_expansions w u ≡ true → refilled_of u n (station_numbers w n) ≡ station_numbers u n
unfolding station_numbers
refilled_told w u n e =
    refilled_is u n (station_numbers w n) (expansion_values_held w n) (numbers_first w n) (numbers_behind w n)
    ∙ ap (λ (l : ExpansionValues). record_numbers n ++ (held_of u n l ++ expansion_numbers l)) (same_expansion_values w u n e)

either_same : (b : Bool) (x y : List Float) → (b ≡ true → x ≡ y) → cond b x y ≡ y
either_same true x y h = h refl
either_same false x y h = refl

-- The numbers of the row u in the place of the row w are those that preparing with u gives
pub renewed_told : (w u : List ℤ) (n : Input) → renewed_of w u n (station_numbers w n) ≡ station_numbers u n
unfolding renewed_of
renewed_told w u n = either_same (same_expansions w u) _ _ (λ e. refilled_told w u n e)

-- A row that differs in entries 0 and 15 to 23 alone is carried over with no expansion worked out again, whatever the station holds
pub outer_row : (w u : List ℤ) (n : Input) (xs : List Float) → ((k : ℕ) → k < 14 → given w (1 + k) ≡ given u (1 + k)) → renewed_of w u n xs ≡ refilled_of u n xs
unfolding renewed_of
outer_row w u n xs h = rw (outer_entries w u h)

-- ---- another sec

-- the fourteen values of glob7s
glob7s_same : (w : List ℤ) (n : Input) (s : Float) → drop 11 (expansion_numbers (expansion_values_held w n)) ≡ drop 11 (expansion_numbers (expansion_values_held w (with_sec_of n s)))
unfolding view_of plain_of with_sec_of
glob7s_same w n s = glob7s_kept (view_of w n) s (view_of w (with_sec_of n s)).cos_ut (view_of w (with_sec_of n s)).cos_ut_long (need_of all_parts)

globe7_anew : (w : List ℤ) (n : Input) → take 11 (expansion_numbers (expansion_values_of (view_of w n) globe7_sets)) ≡ take 11 (expansion_numbers (expansion_values_held w n))
unfolding need_of all_parts
globe7_anew w n = globe7_alone (view_of w n) (need_of all_parts) refl refl refl

-- The numbers after a change of sec are those that preparing the changed record gives
pub sec_told : (w : List ℤ) (n : Input) (s : Float) → sec_filled w (with_sec_of n s) (station_numbers w n) ≡ station_numbers w (with_sec_of n s)
unfolding sec_filled station_numbers
sec_told w n s =
    let m = with_sec_of n s in
    let K = expansion_numbers (expansion_values_held w m) in
    let kept : drop 245 (station_numbers w n) ≡ drop 11 K = sym (drop-drop 11 234 (station_numbers w n)) ∙ ap (drop 11) (numbers_behind w n) ∙ glob7s_same w n s in
    ap (λ (k : List Float). record_numbers m ++ (held_of w m (expansion_values_in k) ++ k)) (ap₂ (λ (a b : List Float). a ++ b) (globe7_anew w m) kept ∙ take-append-drop 11 K)
    ∙ ap (λ (v : ExpansionValues). record_numbers m ++ (held_of w m v ++ K)) (expansion_values_back (expansion_values_held w m))
