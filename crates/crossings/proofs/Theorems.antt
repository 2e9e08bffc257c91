-- Which indices are in the list, that they rise; the answer and the lent buffer; and the part of demand 3.
use Prim.Native.Nat.{ℕ, zero, suc, ◌+◌, ◌*◌, ◌<◌, ◌≤◌}
use Rattle.std.specs.Prelude.{◌≡◌, Bool, true, false, cond, not, ltb, ℤ, drop, Float, Err, Ok}
use Rattle.std.proofs.Math.Path.{refl}
use Rattle.std.proofs.Common.{sym, ap, ap₂, true≢false}
use Rattle.std.proofs.lemmas.Bool.{false≢true}
use mathlib.Core.List.{List, [], ◌∷◌, ◌++◌, Memᴰ}
use native.Mathlib.Omega.{arith}
use Rattle.std.proofs.Math.ListN.{length, length-map}
use Rattle.numbers.specs.Arithmetic.{◌‼◌}
use Rattle.numbers.specs.Literals.{0·0}
use Rattle.refusals.specs.declared.Reason.{Reason}
use Rattle.refusals.specs.Refusals.{Accepted, Answer, Refused, accepted_of, refused_or, refusal_number, as_answer}
use Rattle.refusals.specs.declared.Reason.TheVariants.{AltitudesFall, ListTooShort, WrongLength}
use Rattle.setting.specs.declared.Input.{Input}
use Rattle.acceptance.specs.Acceptance.{with_alt_of}
use Rattle.acceptance.specs.Refusals.{Never}
use Rattle.atmosphere.specs.Atmosphere.{eleven_of}
use Rattle.shutoff.specs.Shut.{Alike}
use Rattle.shutoff.proofs.Theorems.{eleven≡}
use Rattle.altitudes.specs.Altitudes.{column_answer}
use Rattle.altitudes.proofs.Room.{at_most_512, room_never_4}
use Rattle.column.proofs.Theorems.{column_known, at_altitude}
use Rattle.crossings_list.specs.CrossingsList.{passes_of, crossings_of, list_answer, list_after, altitudes_rise, Listed, Listing}
use Rattle.crossings_list.specs.Theorems.{Rising}
use Rattle.crossings_list.specs.Theorems as list
use Rattle.crossings.specs.Crossings.{total_density, densities_of, list_of, after_column, crossings_checked, crossings_answer, crossings_after}

module _ (w : List ℤ) (n : Input) where
  -- as many densities as altitudes, each at its altitude
  pub densities_length : (alts : List Float) → length (densities_of w n alts) ≡ length alts
  unfolding densities_of
  densities_length alts = length-map alts (total_density w n)

  pub density_at_lem : (alts : List Float) (i : ℕ) → i < length alts → densities_of w n alts ‼ i ≡ total_density w n (alts ‼ i)
  unfolding densities_of
  density_at_lem [] i h = absurd (none h)
    where
      none : i < 0 → ⊥
      none g = omega arith
  density_at_lem (z ∷ zs) zero h = refl
  density_at_lem (z ∷ zs) (suc i) h = density_at_lem zs i (omega arith)

  module _ (alts : List Float) (level : Float) (i : ℕ) where
    -- An index is in the list exactly if it and the next one are indices of altitudes and d[5] passes the level between the two.
    pub in_list : Memᴰ i (list_of w n alts level) → (i + 1 < length alts) × (passes_of level (total_density w n (alts ‼ i)) (total_density w n (alts ‼ (i + 1))) ≡ true)
    unfolding list_of
    in_list m =
        let s = list.in_list level (densities_of w n alts) i m in
        let h : i + 1 < length alts = (rw (densities_length alts) at s).0 in
        (h, (rw (density_at_lem alts i (omega arith), density_at_lem alts (i + 1) h) at s).1)

    pub list_has : i + 1 < length alts → passes_of level (total_density w n (alts ‼ i)) (total_density w n (alts ‼ (i + 1))) ≡ true → Memᴰ i (list_of w n alts level)
    unfolding list_of
    list_has h e =
        list.list_has level (densities_of w n alts) i (rw (densities_length alts) h)
        (rw (density_at_lem alts i (omega arith), density_at_lem alts (i + 1) h) e)

  -- The list rises strictly: every index once, lowest first.
  pub list_rises : (alts : List Float) (level : Float) → Rising (list_of w n alts level)
  unfolding list_of
  list_rises alts level = list.list_rises level (densities_of w n alts)

-- ---- the answer

-- The column's refusals stand before 8, and all of these before 9.
pub column_first : (w : List ℤ) (n : Input) (alts : List Float) (i : Reason) (j : ℕ) → column_answer w n alts (11 * length alts) ≡ Refused i j → crossings_checked w n alts ≡ Refused i j
unfolding crossings_checked after_column
column_first w n alts i j e = ap (λ (a : Answer). after_column a alts) e

pub checked_first : (w : List ℤ) (n : Input) (alts : List Float) (level : Float) (len : ℕ) (i : Reason) (j : ℕ) → crossings_checked w n alts ≡ Refused i j
    → crossings_answer w n alts level len ≡ Refused i j
unfolding crossings_answer
checked_first w n alts level len i j e = ap (λ (a : Answer). refused_or a (list_answer (list_of w n alts level) len)) e

-- 'The call is lent no rows, so 4 can't occur': no input is refused with 4.
pub never_4 : (w : List ℤ) (n : Input) (alts : List Float) (level : Float) (len k : ℕ) → crossings_answer w n alts level len ≡ Refused WrongLength k → ⊥
unfolding crossings_answer crossings_checked after_column list_answer
never_4 w n alts level len k e = column (column_answer w n alts (11 * length alts)) (room_never_4 w n alts) e
  where
    list : (b : Bool) (m : ℕ) → cond b (Refused ListTooShort m) (Listed m) ≡ Refused WrongLength k → ⊥
    list true m f = let z : ◌≡◌ {A = ℕ} 9 4 = ap refusal_number f in omega arith
    list false m f = true≢false (ap accepted_of f)

    falls : (b c : Bool) (i m : ℕ) → refused_or (cond b (Refused AltitudesFall i) Accepted) (cond c (Refused ListTooShort m) (Listed m)) ≡ Refused WrongLength k → ⊥
    falls true c i m f = let z : ◌≡◌ {A = ℕ} 8 4 = ap refusal_number f in omega arith
    falls false c i m f = list c m f

    column : (a : Answer) → Never WrongLength a
        → refused_or (cond (not (accepted_of a)) a (cond (ltb (altitudes_rise alts) (length alts)) (Refused AltitudesFall (altitudes_rise alts)) Accepted)) (cond (ltb len (length (list_of w n alts level))) (Refused ListTooShort (length (list_of w n alts level))) (Listed (length (list_of w n alts level)))) ≡ Refused WrongLength k
        → ⊥
    column (Ok v) h f = falls (ltb (altitudes_rise alts) (length alts)) (ltb len (length (list_of w n alts level))) (altitudes_rise alts) (length (list_of w n alts level)) f
    column (Err r) h f = h k (ap as_answer f)

column_passed : (a : Answer) (alts : List Float) → accepted_of (after_column a alts) ≡ true → accepted_of a ≡ true
unfolding after_column
column_passed (Ok v) alts h = refl
column_passed (Err r) alts h = h

-- what passes the checks passes the column's, and has at most 512 altitudes
pub checked_column : (w : List ℤ) (n : Input) (alts : List Float) → accepted_of (crossings_checked w n alts) ≡ true → accepted_of (column_answer w n alts (11 * length alts)) ≡ true
unfolding crossings_checked
checked_column w n alts h = column_passed (column_answer w n alts (11 * length alts)) alts h

pub checked_few : (w : List ℤ) (n : Input) (alts : List Float) → accepted_of (crossings_checked w n alts) ≡ true → length alts ≤ 512
checked_few w n alts h = at_most_512 w n alts (11 * length alts) (checked_column w n alts h)

-- a length comes from no refusal

abbrev length_in : Listing → ℕ
length_in (Ok m) = m
length_in (Err r) = 0

listed : (a : Answer) (b : Bool) (m k : ℕ) → refused_or a (cond b (Refused ListTooShort m) (Listed m)) ≡ Listed k → (accepted_of a ≡ true) × (m ≡ k)
listed (Ok v) false m k e = (refl, ap (λ (r : Listing). length_in r) e)
listed (Ok v) true m k e = absurd (false≢true (ap (λ (r : Listing). accepted_of r) e))
listed (Err r) b m k e = absurd (false≢true (ap (λ (r : Listing). accepted_of r) e))

-- A length that is answered is the list's, and at most 511.
pub length_told : (w : List ℤ) (n : Input) (alts : List Float) (level : Float) (len k : ℕ) → crossings_answer w n alts level len ≡ Listed k
    → (k ≡ length (list_of w n alts level)) × (k ≤ 511)
unfolding crossings_answer list_answer list_of
length_told w n alts level len k e =
    let d = densities_of w n alts in
    let s = listed (crossings_checked w n alts) (ltb len (length (crossings_of level d))) (length (crossings_of level d)) k e in
    (sym s.1, omega (arith, s.1, list.list_short level d, densities_length w n alts, checked_few w n alts s.0))

-- the buffer xs after a list l and an answer a that stands before it
buffer_written : (a : Answer) (b : Bool) (l xs : List ℕ) (k : ℕ) → refused_or a (cond b (Refused ListTooShort (length l)) (Listed (length l))) ≡ Listed k
    → cond (accepted_of a) (cond b xs (l ++ drop (length l) xs)) xs ≡ l ++ drop k xs
buffer_written (Ok v) false l xs k e = ap (λ (m : ℕ). l ++ drop m xs) (listed Accepted false (length l) k e).1
buffer_written (Ok v) true l xs k e = absurd (false≢true (ap (λ (r : Listing). accepted_of r) e))
buffer_written (Err r) b l xs k e = absurd (false≢true (ap (λ (r : Listing). accepted_of r) e))

list_kept : (a : Answer) (b : Bool) (l xs : List ℕ) (i : Reason) (j : ℕ) → refused_or a (cond b (Refused ListTooShort (length l)) (Listed (length l))) ≡ Refused i j
    → cond (accepted_of a) (cond b xs (l ++ drop (length l) xs)) xs ≡ xs
list_kept (Ok v) false l xs i j e = absurd (true≢false (ap (λ (r : Listing). accepted_of r) e))
list_kept (Ok v) true l xs i j e = refl
list_kept (Err r) b l xs i j e = refl

-- Where a length is answered the list stands at the start of the buffer and the rest is as it was; any refusal leaves the buffer as it was.
pub list_written : (w : List ℤ) (n : Input) (alts : List Float) (level : Float) (xs : List ℕ) (k : ℕ) → crossings_answer w n alts level (length xs) ≡ Listed k
    → crossings_after w n alts level xs ≡ list_of w n alts level ++ drop k xs
unfolding crossings_answer crossings_after list_answer list_after
list_written w n alts level xs k e =
    let l = list_of w n alts level in
    buffer_written (crossings_checked w n alts) (ltb (length xs) (length l)) l xs k e

pub buffer_kept : (w : List ℤ) (n : Input) (alts : List Float) (level : Float) (xs : List ℕ) (i : Reason) (j : ℕ) → crossings_answer w n alts level (length xs) ≡ Refused i j
    → crossings_after w n alts level xs ≡ xs
unfolding crossings_answer crossings_after list_answer list_after
buffer_kept w n alts level xs i j e =
    let l = list_of w n alts level in
    list_kept (crossings_checked w n alts) (ltb (length xs) (length l)) l xs i j e

-- ---- demand 3

densities≡ : (w : List ℤ) (a b : Input) → ((z : Float) → eleven_of w (with_alt_of a z) ≡ eleven_of w (with_alt_of b z)) → (alts : List Float)
    → densities_of w a alts ≡ densities_of w b alts
unfolding densities_of total_density
densities≡ w a b h [] = refl
densities≡ w a b h (z ∷ zs) = ap₂ (λ (x : Float) (l : List Float). x ∷ l) (ap (λ (r : List Float). r ‼ 5) (h z)) (densities≡ w a b h zs)

-- Demand 3 for the crossings. For every switch row, any altitudes, any level and any buffer, and any two records alike under that row, whatever
-- their own altitudes, on which a column at these altitudes is accepted: one list, one answer, 8 and 9 among them, and one buffer afterwards.
pub demand_3_crossings : (w : List ℤ) (a b : Input) (alts : List Float) (level : Float) (xs : List ℕ)
    → Alike w (with_alt_of a 0·0) (with_alt_of b 0·0)
    → column_answer w a alts (11 * length alts) ≡ Accepted
    → column_answer w b alts (11 * length alts) ≡ Accepted
    → (list_of w a alts level ≡ list_of w b alts level)
    × (crossings_answer w a alts level (length xs) ≡ crossings_answer w b alts level (length xs))
    × (crossings_after w a alts level xs ≡ crossings_after w b alts level xs)
unfolding list_of crossings_answer crossings_after crossings_checked
demand_3_crossings w a b alts level xs like e f =
    let h : (z : Float) → eleven_of w (with_alt_of a z) ≡ eleven_of w (with_alt_of b z) =
    λ z.
    eleven≡ w (with_alt_of a z) (with_alt_of b z) (at_altitude w a b z like) (column_known w a alts (11 * length alts) z e) (column_known w b alts (11 * length alts) z f) in
    let d = densities≡ w a b h alts in
    (ap (crossings_of level) d, rw (e, f, d), rw (e, f, d))
