-- Densities in a table that reading gave: the one-altitude call's with the row of the one band in which the metre lies; a metre outside every table; and
-- demand 3 by that row.
use Rattle.std.specs.Prelude.{ℕ, ◌≤◌, ◌≡◌, ◌⊎◌, Bool, not, Option, None, Some, List, eqb, ℤ, pos, length, get_or, ◌<ℤ◌, Float}
use Rattle.std.proofs.Math.Path.{refl, ap}
use Rattle.std.proofs.Common.{sym, ◌∙◌}
use Rattle.std.proofs.Math.Bool.{true, false, cond}
use Rattle.std.proofs.lemmas.Bool.{false≢true}
use Rattle.refusals.specs.Refusals.{Accepted, Answer, Refused, accepted_of}
use Rattle.refusals.specs.declared.Reason.TheVariants.{OutOfRange, WrongLength}
use Rattle.setting.specs.declared.Input.{Input}
use Rattle.atmosphere.specs.Atmosphere.{answer_of, eleven_of, row_after}
use Rattle.band_table.specs.Band.{no_band}
use Rattle.band_table.specs.Table.{band_row, OneBand}
use Rattle.band_table.proofs.Theorems.{no_row_lem}
use Rattle.band_form.specs.Bands.{bands_of, Gave}
use Rattle.band_form.proofs.Theorems.{one_band}
use Rattle.shutoff.specs.Shut.{Alike}
use Rattle.shutoff.proofs.Theorems.{demand_3}
use Rattle.bands.specs.Bands.{at_metre, answer_in, eleven_in, banded_answer, banded_after}
use Rattle.bands.specs.Row.{switches_in}

-- ---- a metre outside 0 to 2,500,000

-- 'refused with 3, place 3, after the row slice's length and before the record is looked at': in any table, for any record; the row is as it was
pub metre_refused : (t : List ℤ) (metre : ℤ) (n : Input) (len : ℕ) → (metre <ℤ pos 0) ⊎ (pos 2500000 <ℤ metre)
    → banded_answer t metre n len ≡ cond (not (eqb len 11)) (Refused WrongLength 11) (Refused OutOfRange 3)
unfolding banded_answer
metre_refused t metre n len h = rw (no_row_lem t metre h)

pub metre_row_kept : (t : List ℤ) (metre : ℤ) (n : Input) (xs : List Float) → (metre <ℤ pos 0) ⊎ (pos 2500000 <ℤ metre) → banded_after t metre n xs ≡ xs
unfolding banded_after
metre_row_kept t metre n xs h =
    ap (λ (a : Answer). cond (accepted_of a) (eleven_in (band_row t metre) (at_metre n metre) xs) xs) (metre_refused t metre n (length xs) h)
    ∙ go (eqb (length xs) 11) _
  where
    go : (b : Bool) (ys : List Float) → cond (accepted_of (cond {A = Answer} (not b) (Refused WrongLength 11) (Refused OutOfRange 3))) ys xs ≡ xs
    go true ys = refl
    go false ys = refl

-- ---- a metre that has a row, in any table

module _ (t : List ℤ) (metre : ℤ) (w : List ℤ) (e : band_row t metre ≡ Some w) (n : Input) where
  -- answer and lent row are the one-altitude call's with that row at that altitude
  pub answer_told : (len : ℕ) → banded_answer t metre n len ≡ answer_of w (at_metre n metre) len
  unfolding banded_answer answer_of
  answer_told len = rw e (both (eqb len 11) _)
    where
      both : (b : Bool) (x : Answer) → cond (not b) (Refused WrongLength 11) (cond (not b) (Refused WrongLength 11) x) ≡ cond (not b) (Refused WrongLength 11) x
      both true x = refl
      both false x = refl

  pub row_told : (xs : List Float) → banded_after t metre n xs ≡ row_after w (at_metre n metre) xs
  unfolding banded_after row_after
  row_told xs =
      ap (λ (a : Answer). cond (accepted_of a) (eleven_in (band_row t metre) (at_metre n metre) xs) xs) (answer_told (length xs))
      ∙ ap (λ (r : Option (List ℤ)). cond (accepted_of (answer_of w (at_metre n metre) (length xs))) (eleven_in r (at_metre n metre) xs) xs) e

-- ---- a table that reading gave

-- a metre from 0 to 2,500,000 lies in exactly one band, and its density is the one-altitude call's with that band's row at metres / 1000 km
pub record Banded (t : List ℤ) (g : Gave t) (metre : ℕ) (n : Input) : Type 0 where
  pub band : OneBand t (bands_of g.text) metre
  pub answer : (len : ℕ) → banded_answer t (pos metre) n len ≡ answer_of (get_or (bands_of g.text) band.index no_band).row (at_metre n (pos metre)) len
  pub row : (xs : List Float) → banded_after t (pos metre) n xs ≡ row_after (get_or (bands_of g.text) band.index no_band).row (at_metre n (pos metre)) xs

pub banded : (t : List ℤ) (g : Gave t) (metre : ℕ) (n : Input) → metre ≤ 2500000 → Banded t g metre n
banded t g metre n h =
    let b = one_band t g metre h in
    record { band = b; answer = answer_told t (pos metre) _ b.row n; row = row_told t (pos metre) _ b.row n }

-- ---- demand 3, by the row of the metre's band

-- an accepted call's metre has a row
pub row_found : (t : List ℤ) (metre : ℤ) (n : Input) (len : ℕ) → banded_answer t metre n len ≡ Accepted → band_row t metre ≡ Some (switches_in (band_row t metre))
unfolding banded_answer
row_found t metre n len e = found (not (eqb len 11)) (band_row t metre) e
  where
    found : (b : Bool) (r : Option (List ℤ)) → cond b (Refused WrongLength 11) (answer_in r (at_metre n metre) len) ≡ Accepted → r ≡ Some (switches_in r)
    found true r h = absurd (false≢true (ap accepted_of h))
    found false None h = absurd (false≢true (ap accepted_of h))
    found false (Some w) h = refl

-- For any table and metre, and any two accepted runs on records alike under the row that the table has there, one altitude in both: both write
-- the same eleven numbers, and these are the definition's with that row for the one record and for the other.
pub demand_3_bands : (t : List ℤ) (metre : ℤ) (a b : Input) (xs ys : List Float)
    → Alike (switches_in (band_row t metre)) (at_metre a metre) (at_metre b metre)
    → banded_answer t metre a (length xs) ≡ Accepted
    → banded_answer t metre b (length ys) ≡ Accepted
    → (banded_after t metre a xs ≡ banded_after t metre b ys)
    × (banded_after t metre a xs ≡ eleven_of (switches_in (band_row t metre)) (at_metre a metre))
    × (banded_after t metre b ys ≡ eleven_of (switches_in (band_row t metre)) (at_metre b metre))
demand_3_bands t metre a b xs ys like e f =
    let w = switches_in (band_row t metre) in
    let r = row_found t metre a (length xs) e in
    let d = demand_3 w (at_metre a metre) (at_metre b metre) xs ys like (sym (answer_told t metre w r a (length xs)) ∙ e) (sym (answer_told t metre w r b (length ys)) ∙ f) in
    let p = row_told t metre w r a xs in
    let q = row_told t metre w r b ys in
    (p ∙ d.0 ∙ sym q, p ∙ d.1, q ∙ d.2)
