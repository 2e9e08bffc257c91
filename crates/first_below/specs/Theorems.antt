-- What the index and the row are, when none is answered, and the part of demand 3.
use Prim.Native.Nat.{ℕ, zero, suc, ◌+◌, ◌*◌, ◌<◌, ◌≤◌}
use Rattle.std.specs.Prelude.{◌≡◌, Bool, true, cond, not, eqb, ℤ, take, Float, Err, Ok, None, Some}
use Rattle.std.proofs.Math.Path.{refl, sym, ap}
use Rattle.std.proofs.Common.{◌∙◌, length-append, take_at}
use Rattle.std.proofs.Math.Bool.{false}
use Rattle.std.proofs.lemmas.Bool.{false≢true, eqb-false}
use mathlib.Core.List.{List, [], ◌∷◌, ◌++◌, append_assoc, append-nil}
use native.Mathlib.Omega.{arith}
use Rattle.std.proofs.Math.ListN.{length, drop, get_or-append}
use Rattle.std.proofs.Math.Seq.{drop_at, drop-drop}
use Rattle.std.specs.Float.Ieee.{lt}
use Rattle.numbers.specs.Arithmetic.{◌‼◌}
use Rattle.numbers.specs.Literals.{0·0}
use Rattle.refusals.specs.Refusals.{Accepted, Answer, Refused, accepted_of, refused_or, as_answer, refusal_place}
use Rattle.refusals.specs.declared.Reason.TheVariants.{WrongLength}
use Rattle.setting.specs.declared.Input.{Input}
use Rattle.acceptance.specs.Acceptance.{with_alt_of}
use Rattle.acceptance.specs.Refusals.{test_passed, Never}
use Rattle.atmosphere.specs.Atmosphere.{eleven_of}
use Rattle.shutoff.specs.Shut.{Alike}
use Rattle.shutoff.proofs.Theorems.{eleven≡}
use Rattle.drag.specs.Length.{eleven_long}
use Rattle.altitudes.specs.Altitudes.{column_answer}
use Rattle.altitudes.proofs.Room.{at_most_512, room_never_4}
use Rattle.column.specs.Column.{column_rows, column_after}
use Rattle.column.proofs.Theorems.{column_known, at_altitude, rows≡, column_written}
use Rattle.first_below_list.specs.FirstBelowList.{is_below, row_in, first_below, first_row, At, First, Nowhere}
use Rattle.first_below_list.specs.Theorems.{is_at}
use Rattle.first_below_list.specs.Theorems as list
use Rattle.first_below.specs.FirstBelow.{first_below_checked, first_of, first_answer, first_after}

-- ---- the rows

module _ (w : List ℤ) (n : Input) where
  -- The row of an index among a column's rows, whatever lies behind them, is the one-altitude call's at that altitude.
  pub row_at : (alts : List Float) (k : ℕ) (xs : List Float) → k < length alts → row_in (column_rows w n alts ++ xs) k ≡ eleven_of w (with_alt_of n (alts ‼ k))
  unfolding column_rows row_in
  row_at [] k xs h = absurd (none h)
    where
      none : k < 0 → ⊥
      none g = omega arith
  row_at (z ∷ zs) zero xs h =
      rw (append_assoc (eleven_of w (with_alt_of n z)) (column_rows w n zs) xs)
      (take_at (eleven_of w (with_alt_of n z)) (column_rows w n zs ++ xs) 11 (eleven_long w (with_alt_of n z)))
  row_at (z ∷ zs) (suc k) xs h =
      let E = eleven_of w (with_alt_of n z) in
      let e : 11 * suc k ≡ 11 + 11 * k = omega arith in
      let d : drop (11 * suc k) ((E ++ column_rows w n zs) ++ xs) ≡ drop (11 * k) (column_rows w n zs ++ xs) =
      rw (e, append_assoc E (column_rows w n zs) xs, ← drop-drop (11 * k) 11 (E ++ (column_rows w n zs ++ xs)), drop_at E (column_rows w n zs ++ xs) 11 (eleven_long w (with_alt_of n z))) in
      ap (take 11) d ∙ row_at zs k xs (omega arith)

  pub its_row : (alts : List Float) (k : ℕ) → k < length alts → row_in (column_rows w n alts) k ≡ eleven_of w (with_alt_of n (alts ‼ k))
  its_row alts k h = ap (λ (r : List Float). row_in r k) (sym (append-nil (column_rows w n alts))) ∙ row_at alts k [] h

-- ---- the answer

-- 4 is for the row that is lent, at 11, and for nothing else: no rows are lent, so the column's own 4 can't occur.
pub four_told : (w : List ℤ) (n : Input) (alts : List Float) (level : Float) (len k : ℕ) → first_answer w n alts level len ≡ Refused WrongLength k → (k ≡ 11) × (len ≡ 11 → ⊥)
unfolding first_answer first_below_checked first_of
four_told w n alts level len k e = row (eqb len 11) refl e
  where
    column : (a : Answer) → Never WrongLength a → refused_or a (first_below level (column_rows w n alts) (length alts)) ≡ Refused WrongLength k → ⊥
    column (Ok v) h f = list.never_refused level (column_rows w n alts) (length alts) 0 WrongLength k f
    column (Err r) h f = h k (ap as_answer f)

    row : (b : Bool) → eqb len 11 ≡ b
        → refused_or (cond (not b) (Refused WrongLength 11) (column_answer w n alts (11 * length alts))) (first_below level (column_rows w n alts) (length alts)) ≡ Refused WrongLength k
        → (k ≡ 11) × (len ≡ 11 → ⊥)
    row true t f = absurd (column (column_answer w n alts (11 * length alts)) (room_never_4 w n alts) f)
    row false t f = (sym (ap refusal_place f), eqb-false len 11 t)

-- what passes the checks passes the column's, and has at most 512 altitudes
pub first_checked_column : (w : List ℤ) (n : Input) (alts : List Float) (len : ℕ) → accepted_of (first_below_checked w n alts len) ≡ true
    → accepted_of (column_answer w n alts (11 * length alts)) ≡ true
unfolding first_below_checked
first_checked_column w n alts len h = (test_passed (not (eqb len 11)) WrongLength 11 _ h).1

pub first_checked_few : (w : List ℤ) (n : Input) (alts : List Float) (len : ℕ) → accepted_of (first_below_checked w n alts len) ≡ true → length alts ≤ 512
first_checked_few w n alts len h = at_most_512 w n alts (11 * length alts) (first_checked_column w n alts len h)

-- an index and none come from no refusal
abbrev is_refused : First → Bool
is_refused (Ok (Some k)) = false
is_refused (Ok None) = false
is_refused (Err r) = true

first_below_accepted : (a : Answer) (x y : First) → is_refused y ≡ false → refused_or a x ≡ y → (accepted_of a ≡ true) × (x ≡ y)
first_below_accepted (Ok v) x y h e = (refl, e)
first_below_accepted (Err r) x y h e = absurd (false≢true (sym h ∙ sym (ap (λ (r : First). is_refused r) e)))

module _ (w : List ℤ) (n : Input) (alts : List Float) (level : Float) (len : ℕ) where
  told : (y : First) → is_refused y ≡ false → first_answer w n alts level len ≡ y → (accepted_of (first_below_checked w n alts len) ≡ true) × (first_of w n alts level ≡ y)
  unfolding first_answer
  told y h e = first_below_accepted (first_below_checked w n alts len) (first_of w n alts level) y h e

  -- An index is answered only if it is the lowest whose row's d[5] in the full column is below the level; it is at most 511.
  pub index_told : (k : ℕ) → first_answer w n alts level len ≡ At k
      → (k < length alts) × (k ≤ 511) × (lt (row_in (column_rows w n alts) k ‼ 5) level ≡ true)
      × ((j : ℕ) → j < k → lt (row_in (column_rows w n alts) j ‼ 5) level ≡ false)
  unfolding first_of is_below
  index_told k e =
      let s = told (At k) refl e in
      let f = list.first_told level (column_rows w n alts) (length alts) k s.1 in
      (f.0, omega (arith, f.0, first_checked_few w n alts len s.0), f.1, f.2)

  -- None is answered only if no altitude's d[5] is below the level.
  pub none_told : first_answer w n alts level len ≡ Nowhere → (j : ℕ) → j < length alts → lt (row_in (column_rows w n alts) j ‼ 5) level ≡ false
  unfolding first_of is_below
  none_told e = list.none_told level (column_rows w n alts) (length alts) (told Nowhere refl e).1

  -- Where nothing is refused, that is all it takes: the lowest such index is answered, and none where there is none.
  pub index_there : first_below_checked w n alts len ≡ Accepted → (k : ℕ) → k < length alts → lt (row_in (column_rows w n alts) k ‼ 5) level ≡ true
      → ((j : ℕ) → j < k → lt (row_in (column_rows w n alts) j ‼ 5) level ≡ false)
      → first_answer w n alts level len ≡ At k
  unfolding first_answer first_of is_below
  index_there e k h t f = rw e (list.first_there level (column_rows w n alts) (length alts) k h t f)

  pub none_there : first_below_checked w n alts len ≡ Accepted → ((j : ℕ) → j < length alts → lt (row_in (column_rows w n alts) j ‼ 5) level ≡ false)
      → first_answer w n alts level len ≡ Nowhere
  unfolding first_answer first_of is_below
  none_there e f = rw e (list.none_there level (column_rows w n alts) (length alts) f)

-- ---- the lent row

module _ (w : List ℤ) (n : Input) (alts : List Float) (level : Float) (xs : List Float) where
  -- Where an index is answered the row is the one-altitude call's at that altitude, and the part of that index in the buffer that the column call
  -- fills, whatever the buffer.
  pub row_told : (k : ℕ) → first_answer w n alts level (length xs) ≡ At k
      → (first_after w n alts level xs ≡ eleven_of w (with_alt_of n (alts ‼ k)))
      × ((ys : List Float) → column_answer w n alts (length ys) ≡ Accepted → first_after w n alts level xs ≡ row_in (column_after w n alts ys) k)
  unfolding first_after
  row_told k e =
      let h = (index_told w n alts level (length xs) k e).0 in
      let f : first_row (first_answer w n alts level (length xs)) (column_rows w n alts) xs ≡ eleven_of w (with_alt_of n (alts ‼ k)) =
      ap (λ (a : First). first_row a (column_rows w n alts) xs) e ∙ its_row w n alts k h in
      (f, λ ys g. f ∙ sym (ap (λ (r : List Float). row_in r k) (column_written w n alts ys g) ∙ row_at w n alts k (drop (11 * length alts) ys) h))

  -- Where none is answered, or the call is refused, the row is as it was.
  pub row_kept : is_at (first_answer w n alts level (length xs)) ≡ false → first_after w n alts level xs ≡ xs
  unfolding first_after
  row_kept h = go (first_answer w n alts level (length xs)) h
    where
      go : (a : First) → is_at a ≡ false → first_row a (column_rows w n alts) xs ≡ xs
      go (Ok (Some k)) g = absurd (false≢true (sym g))
      go (Ok None) g = refl
      go (Err r) g = refl

-- ---- the altitudes behind the hit

-- Of the altitudes zs and then ts an index within zs is answered: with any others in the place of ts, that the column takes, answer and row are the same.
module _ (w : List ℤ) (n : Input) (zs ts us : List Float) (level : Float) (xs : List Float) where
  same_altitude : (j : ℕ) → j < length zs → (zs ++ ts) ‼ j ≡ (zs ++ us) ‼ j
  same_altitude j h = get_or-append zs ts _ j h ∙ sym (get_or-append zs us _ j h)

  same_row : (j : ℕ) → j < length zs → row_in (column_rows w n (zs ++ ts)) j ≡ row_in (column_rows w n (zs ++ us)) j
  same_row j h =
      its_row w n (zs ++ ts) j (omega (arith, length-append zs ts))
      ∙ ap (λ (z : Float). eleven_of w (with_alt_of n z)) (same_altitude j h)
      ∙ sym (its_row w n (zs ++ us) j (omega (arith, length-append zs us)))

  pub behind_the_hit : (k : ℕ) → k < length zs → first_answer w n (zs ++ ts) level (length xs) ≡ At k → first_below_checked w n (zs ++ us) (length xs) ≡ Accepted
      → (first_answer w n (zs ++ us) level (length xs) ≡ At k) × (first_after w n (zs ++ us) level xs ≡ first_after w n (zs ++ ts) level xs)
  behind_the_hit k h e f =
      let t = index_told w n (zs ++ ts) level (length xs) k e in
      let a = index_there w n (zs ++ us) level (length xs) f k (omega (arith, length-append zs us))
      (ap (λ (r : List Float). lt (r ‼ 5) level) (sym (same_row k h)) ∙ t.2)
      (λ j i. ap (λ (r : List Float). lt (r ‼ 5) level) (sym (same_row j (omega arith))) ∙ t.3 j i) in
      (a, (row_told w n (zs ++ us) level xs k a).0 ∙ ap (λ (z : Float). eleven_of w (with_alt_of n z)) (sym (same_altitude k h)) ∙ sym (row_told w n (zs ++ ts) level xs k e).0)

-- ---- demand 3

-- Demand 3 for the first altitude thin enough. For every switch row, any altitudes, any level and any lent row, and any two records alike under
-- that switch row, whatever their own altitudes, on which a column at these altitudes is accepted: one answer, and one row afterwards.
pub demand_3_first : (w : List ℤ) (a b : Input) (alts : List Float) (level : Float) (xs : List Float)
    → Alike w (with_alt_of a 0·0) (with_alt_of b 0·0)
    → column_answer w a alts (11 * length alts) ≡ Accepted
    → column_answer w b alts (11 * length alts) ≡ Accepted
    → (first_answer w a alts level (length xs) ≡ first_answer w b alts level (length xs))
    × (first_after w a alts level xs ≡ first_after w b alts level xs)
unfolding first_after first_answer first_of first_below_checked
demand_3_first w a b alts level xs like e f =
    let h : (z : Float) → eleven_of w (with_alt_of a z) ≡ eleven_of w (with_alt_of b z) =
    λ z.
    eleven≡ w (with_alt_of a z) (with_alt_of b z) (at_altitude w a b z like) (column_known w a alts (11 * length alts) z e) (column_known w b alts (11 * length alts) z f) in
    let d = rows≡ w a b h alts in
    (rw (e, f, d), rw (e, f, d))
