-- What the host is told of an answer is what it is told of its outcome.
use Prim.Native.Nat.{ℕ}
use mathlib.Core.Path.{◌≡◌, refl, sym, ◌∙◌}
use mathlib.Core.List.{List, [], ◌∷◌}
use native.Mathlib.Omega.{arith}
use borrow.Author.Tests.{eq-eqb, ne_eqb}
use lib.ListN.{length, set}
use lib.Ieee.{Float}
use Rattle.std.proofs.Common.{Ok, Err}
use Rattle.spline_calls.specs.Outcome.{Outcome, gives, after}
use Rattle.spline_calls.specs.Calls.{outcome_of, write_outcome}
use Rattle.spline_calls.specs.declared.NodesRefusal.{NodesRefusal}
use Rattle.spline_calls.specs.declared.NodesRefusal.TheVariants.{NodeCount, SliceLength}
use Rattle.profile.specs.Profile.{returned_number, temperature_in}
use Rattle.profile.specs.declared.unchecked.Profile.{Profile}
use Rattle.host_record.specs.Record.{packed_of}
use Rattle.oracle_parts.specs.OracleParts.{outcome_code, one_number, two_numbers, lent, kept_unless_long}

-- ---- lists of one and of two numbers

set_one : (xs : List Float) (y : Float) → length xs ≡ 1 → set xs 0 y ≡ y ∷ []
set_one [] y e = absurd (omega (arith, e))
set_one (x ∷ []) y e = refl
set_one (x ∷ w ∷ xs) y e = absurd (omega (arith, e))

set_two : (xs : List Float) (y z : Float) → length xs ≡ 2 → set (set xs 0 y) 1 z ≡ y ∷ z ∷ []
set_two [] y z e = absurd (omega (arith, e))
set_two (x ∷ []) y z e = absurd (omega (arith, e))
set_two (x ∷ w ∷ []) y z e = refl
set_two (x ∷ w ∷ v ∷ xs) y z e = absurd (omega (arith, e))

-- ---- a refusal, and the values

module _ (e : NodesRefusal) (xs : List Float) (c : ℕ) (h : c ≡ outcome_code (outcome_of {A = List Float} (Err e))) where
  pub value_refused : (c ≡ outcome_code (one_number (outcome_of (Err e)))) × (xs ≡ after (one_number (outcome_of (Err e))) xs)
  unfolding outcome_code one_number after
  value_refused = by e h
    where
      by : (e : NodesRefusal) → c ≡ outcome_code (outcome_of {A = List Float} (Err e)) → (c ≡ outcome_code (one_number (outcome_of (Err e)))) × (xs ≡ after (one_number (outcome_of (Err e))) xs)
      by (NodeCount place) h = (h, refl)
      by (SliceLength place) h = (h, refl)

  pub profile_refused : (c ≡ outcome_code (two_numbers (outcome_of (Err e)))) × (xs ≡ after (two_numbers (outcome_of (Err e))) xs)
  unfolding outcome_code two_numbers after
  profile_refused = by e h
    where
      by : (e : NodesRefusal) → c ≡ outcome_code (outcome_of {A = List Float} (Err e)) → (c ≡ outcome_code (two_numbers (outcome_of (Err e)))) × (xs ≡ after (two_numbers (outcome_of (Err e))) xs)
      by (NodeCount place) h = (h, refl)
      by (SliceLength place) h = (h, refl)

pub value_given : (x : Float) (xs : List Float) → length xs ≡ 1 → (0 ≡ outcome_code (one_number (gives x))) × (set xs 0 x ≡ after (one_number (gives x)) xs)
unfolding outcome_code one_number after
value_given x xs l = (refl, set_one xs x l)

pub profile_given : (p : Profile) (xs : List Float) (x y : Float) → x ≡ returned_number p → y ≡ temperature_in p → length xs ≡ 2
    → (0 ≡ outcome_code (two_numbers (gives p))) × (set (set xs 0 x) 1 y ≡ after (two_numbers (gives p)) xs)
unfolding outcome_code two_numbers after
profile_given p xs x y f g l = (refl, set_two xs x y l ∙ rw (f, g))

-- spline's 0
pub write_given : (ys : List Float) (u : Unit {0}) → 0 ≡ outcome_code (write_outcome (Ok u) ys)
unfolding outcome_code
write_given ys u = refl

-- ---- the slice for the values

module _ (k : ℕ) (xs : List Float) (o : Outcome (List Float)) where
  pub no_room : (c : ℕ) → (length xs ≡ k → ⊥) → c ≡ packed_of 4 k → (c ≡ outcome_code (lent k xs o)) × (xs ≡ after (lent k xs o) xs)
  unfolding lent outcome_code after
  no_room c h e = (simp (e, ne_eqb _ _ h), simp (ne_eqb _ _ h))

  pub room : (c : ℕ) (ys : List Float) (q : Outcome (List Float)) → length xs ≡ k → q ≡ o → (c ≡ outcome_code q) × (ys ≡ after q xs) → (c ≡ outcome_code (lent k xs o)) × (ys ≡ after (lent k xs o) xs)
  unfolding lent
  room c ys q h e w = rw (eq-eqb _ _ h, sym e) w

module _ (k : ℕ) (xs ys zs : List Float) where
  pub kept_as_lent : (length xs ≡ k → ⊥) → ys ≡ kept_unless_long k xs ys zs
  unfolding kept_unless_long
  kept_as_lent h = simp (ne_eqb _ _ h)

  pub kept_changed : (ws : List Float) → length xs ≡ k → ws ≡ zs → ws ≡ kept_unless_long k xs ys zs
  unfolding kept_unless_long
  kept_changed ws h e = simp (e, eq-eqb _ _ h)
