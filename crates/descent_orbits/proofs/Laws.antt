-- Ranges, the whole part, the outcomes of an orbit, the settings passed one by one, and the refusals.
use mathlib.Core.Path.{◌≡◌, refl, sym, ap, ◌∙◌}
use mathlib.Core.Bool.{Bool, true, false, not, ◌&&◌, ◌||◌, and-false, true≢false, false≢true}
use mathlib.Core.List.{List, [], ◌∷◌}
use Prim.Native.Nat.{ℕ, suc, ◌+◌, ◌*◌, ◌/◌, ◌^◌, ◌<◌, ◌≤◌}
use native.Mathlib.Numerals.{add-one}
use native.Mathlib.Nat.{div-le_of_le-mul}
use native.Mathlib.Omega.{arith}
use borrow.Author.Tests.{ltb-true, ltb-false, lt-ltb, le-ltb, le-leb, lt-leb, eq-eqb}
use lib.Dec.{T, leb, ltb, leb→le}
use lib.IntN.{ℤ, pos, negsuc, nat_abs}
use lib.ListN.{length, drop, get_or, set}
use lib.Seq.{drop-cons, drop-length}
use lib.Signed.{lt_z, non_neg}
use lib.Ieee.{Float, nan, inf, fin, up, down, lt, ne, eq, is_nan, of_bits}
use lib.Ieee.Scale.{finite}
use Rattle.refusals.specs.Refusals.{Accepted, Refused}
use Rattle.refusals.specs.declared.Reason.TheVariants.{ListOfLosses, SettingOutside, StartOutside}
use Rattle.fixed_point.specs.Fixed.{scaled_of}
use Rattle.fixed_point.proofs.Range.{clash}
use Rattle.numbers.specs.Literals.{0·0, 1·0E9}
use Rattle.numbers.specs.Booleans.{both}
use Rattle.descent_orbits.specs.declared.Ending.{Ending}
use Rattle.descent_orbits.specs.declared.Ending.TheVariants.{NoDensity, Reached}
use Rattle.descent_orbits.specs.declared.Orbit.TheVariants.{Ends, Loses}
use Rattle.descent_orbits.specs.Lent.{ending_number, end_numbers}
use Rattle.descent_orbits.specs.DescentOrbits.{whole_part, no_density_of, orbit_of, whole_within, start_within, millimetres_of, setting_within, unfit_setting_from, unfit_setting, descent_refusal}

-- ---- ranges; x is the number as the machine reads it

module _ (lo hi : ℕ) (x z : ℤ) (f : x ≡ z) where
  pub below_range : lt_z x (pos lo) ≡ true → false ≡ whole_within lo hi z
  below_range e = by z (ap (λ (y : ℤ). lt_z y (pos lo)) (sym f) ∙ e)
    where
      by : (y : ℤ) → lt_z y (pos lo) ≡ true → false ≡ whole_within lo hi y
      by (pos k) h = sym (ap (λ (b : Bool). b && leb k hi) (lt-leb lo k (ltb-true k lo h)))
      by (negsuc k) h = refl

  pub above_range : lt_z (pos hi) x ≡ true → false ≡ whole_within lo hi z
  above_range e = by z (ap (lt_z (pos hi)) (sym f) ∙ e)
    where
      by : (y : ℤ) → lt_z (pos hi) y ≡ true → false ≡ whole_within lo hi y
      by (pos k) h = sym (ap (λ (b : Bool). leb lo k && b) (lt-leb k hi (ltb-true hi k h)) ∙ and-false (leb lo k))
      by (negsuc k) h = refl

  pub in_range : lt_z x (pos lo) ≡ false → lt_z (pos hi) x ≡ false → true ≡ whole_within lo hi z
  in_range e g = by z (ap (λ (y : ℤ). lt_z y (pos lo)) (sym f) ∙ e) (ap (lt_z (pos hi)) (sym f) ∙ g)
    where
      by : (y : ℤ) → lt_z y (pos lo) ≡ false → lt_z (pos hi) y ≡ false → true ≡ whole_within lo hi y
      by (pos k) h i = sym (ap (λ (b : Bool). b && leb k hi) (le-leb lo k (ltb-false k lo h)) ∙ le-leb k hi (ltb-false hi k i))
      by (negsuc k) h i = absurd (true≢false h)

le_of : (a b : ℕ) → leb a b ≡ true → a ≤ b
le_of a b e = leb→le a b (rw e tt)

-- a start in its range is whole millimetres, from 200 to 1,000 km
pub record Started (x z : ℤ) : Type 0 where
  pub sign : T (non_neg x)
  pub size : nat_abs x ≡ millimetres_of z
  pub least : 200000000 ≤ millimetres_of z
  pub most : millimetres_of z ≤ 1000000000

pub started : (x z : ℤ) → x ≡ z → start_within z ≡ true → Started x z
started (pos a) z f h = rw (← f) (by (both (leb 200000000 a) (leb a 1000000000) (rw (← f) at h)))
  where
    by : (leb 200000000 a ≡ true) × (leb a 1000000000 ≡ true) → Started (pos a) (pos a)
    by p = record { sign = tt; size = refl; least = le_of 200000000 a p.0; most = le_of a 1000000000 p.1 }
started (negsuc a) z f h = absurd (false≢true (ap start_within f ∙ h))

-- ---- the product

nan_differs : (x : Float) → ne x x ≡ is_nan x
unfolding ne eq is_nan
nan_differs nan = refl
nan_differs (inf true) = refl
nan_differs (inf false) = refl
nan_differs (fin true m e) = ap (λ (b : Bool). not (b && true)) (eq-eqb (m * up e * down e) (m * up e * down e) refl)
nan_differs (fin false m e) = ap (λ (b : Bool). not (b && true)) (eq-eqb (m * up e * down e) (m * up e * down e) refl)

pub tested : (x : Float) → ((lt x 0·0 || ne x x) || lt 1·0E9 x) ≡ no_density_of x
unfolding no_density_of
tested x = ap (λ (b : Bool). (lt x 0·0 || b) || lt 1·0E9 x) (nan_differs x)

either : (a b : Bool) → (a || b) ≡ false → (a ≡ false) × (b ≡ false)
either true b e = absurd (true≢false e)
either false b e = (refl, e)

pub whole_scaled : (x : Float) → scaled_of 0 x ≡ whole_part x
whole_scaled nan = refl
whole_scaled (inf s) = refl
whole_scaled (fin s m e) = ap (λ (n : ℕ). n / down e) (by (m * up e))
  where
    by : (n : ℕ) → n * 2 ^ 0 ≡ n
    by n = omega arith

-- a product that is a density's is finite, and its whole part is at most 1E9
pub whole_fits : (x : Float) → no_density_of x ≡ false → T (finite x) × (whole_part x ≤ 1000000000)
unfolding no_density_of lt is_nan of_bits
whole_fits nan h = clash h
whole_fits (inf true) h = clash h
whole_fits (inf false) h = clash h
whole_fits (fin true m e) h =
    let p = either (ltb 0 (m * up e * 1 + 0 * 1 * down e)) false (either (ltb 0 (m * up e * 1 + 0 * 1 * down e) || false) false h).0 in
    (tt, div-le_of_le-mul (down e) (by (m * up e) (down e) (ltb-false _ _ p.0)))
  where
    by : (n d : ℕ) → n * 1 + 0 * 1 * d ≤ 0 → n ≤ d * 1000000000
    by n d g = omega arith
whole_fits (fin false m e) h =
    let p = either (ltb (m * up e * 1) (0 * 1 * down e) || false) (ltb (1953125 * 2 ^ 9 * down e) (m * up e * 1)) h in
    (tt, div-le_of_le-mul (down e) (by (m * up e) (down e) (ltb-false _ _ p.1)))
  where
    by : (n d : ℕ) → n * 1 ≤ 1953125 * 2 ^ 9 * d → n ≤ d * 1000000000
    by n d g = omega arith

-- ---- an orbit

-- y is the product as it was worked out
module _ (a : ℕ) (y x : Float) (p : y ≡ x) (t : Bool) (e : t ≡ no_density_of y) where
  pub thin : t ≡ true → Ends NoDensity ≡ orbit_of a x
  unfolding orbit_of
  thin h = rw (← p) (simp (← e) (simp h))

  module _ (f : t ≡ false) (l : ℕ) (g : l ≡ whole_part y) where
    pub arrives : a < 200000000 + l → Ends Reached ≡ orbit_of a x
    unfolding orbit_of
    arrives h = rw (← p, ← g) (simp (← e, lt-ltb _ _ h) (simp f))

    pub sinks : 200000000 + l ≤ a → Loses l ≡ orbit_of a x
    unfolding orbit_of
    sinks h = rw (← p, ← g) (simp (← e, le-ltb _ _ h) (simp f))

-- ---- the settings

module _ (ss : List ℤ) (i : ℕ) (t : Bool) where
  pub unfit_here : i < length ss → t ≡ setting_within (get_or ss i (pos 0)) → not t ≡ true → i ≡ unfit_setting_from i (drop i ss)
  unfolding unfit_setting_from
  unfit_here h e f = rw (drop-cons ss i (pos 0) h) (simp (← e) (simp f))

  pub fits_here : i < length ss → t ≡ setting_within (get_or ss i (pos 0)) → not t ≡ false → unfit_setting_from (i + 1) (drop (i + 1) ss) ≡ unfit_setting_from i (drop i ss)
  unfolding unfit_setting_from
  fits_here h e f = rw (drop-cons ss i (pos 0) h, add-one) (simp (← e) (simp f))

pub all_fit : (ss : List ℤ) (i : ℕ) → i ≡ length ss → i ≡ unfit_setting_from i (drop i ss)
unfolding unfit_setting_from
all_fit ss i h = rw (h, drop-length ss)

-- ---- the refusals; x is the start as the machine reads it

module _ (start : ℤ) (ss : List ℤ) (room : ℕ) (x : ℤ) (f : x ≡ start) (t : Bool) (e : t ≡ start_within x) where
  pub start_off : not t ≡ true → Refused StartOutside 0 ≡ descent_refusal start ss room
  unfolding descent_refusal
  start_off h = rw (← f) (simp (← e) (simp h))

  module _ (h : not t ≡ false) (k : ℕ) (g : k ≡ unfit_setting ss) where
    pub ill_set : k < length ss → Refused SettingOutside (k + 1) ≡ descent_refusal start ss room
    unfolding descent_refusal
    ill_set l = rw (← f, ← g) (simp (← e, lt-ltb _ _ l) (simp h))

    module _ (l : length ss ≤ k) where
      pub too_many : 10000 < length ss → Refused ListOfLosses 10000 ≡ descent_refusal start ss room
      unfolding descent_refusal
      too_many m = rw (← f, ← g) (simp (← e, le-ltb _ _ l, lt-ltb _ _ m) (simp h))

      module _ (m : length ss ≤ 10000) where
        pub no_room : room < length ss → Refused ListOfLosses (length ss) ≡ descent_refusal start ss room
        unfolding descent_refusal
        no_room n = rw (← f, ← g) (simp (← e, le-ltb _ _ l, le-ltb _ _ m, lt-ltb _ _ n) (simp h))

        pub all_well : length ss ≤ room → Accepted ≡ descent_refusal start ss room
        unfolding descent_refusal
        all_well n = rw (← f, ← g) (simp (← e, le-ltb _ _ l, le-ltb _ _ m, le-ltb _ _ n) (simp h))

-- ---- the lent memory

module _ (a b c : ℤ) where
  -- three numbers in the place of three
  pub three : (xs : List ℤ) → length xs ≡ 3 → set (set (set xs 0 a) 1 b) 2 c ≡ a ∷ b ∷ c ∷ []
  three [] h = absurd (none h)
    where
      none : ◌≡◌ {A = ℕ} 0 3 → ⊥
      none g = omega arith
  three (x ∷ []) h = absurd (none h)
    where
      none : ◌≡◌ {A = ℕ} 1 3 → ⊥
      none g = omega arith
  three (x ∷ y ∷ []) h = absurd (none h)
    where
      none : ◌≡◌ {A = ℕ} 2 3 → ⊥
      none g = omega arith
  three (x ∷ y ∷ z ∷ []) h = refl
  three (x ∷ y ∷ z ∷ u ∷ r) h = absurd (none (length r) h)
    where
      none : (n : ℕ) → suc (suc (suc (suc n))) ≡ 3 → ⊥
      none n g = omega arith

pub put_down : (xs : List ℤ) (e : Ending) (last count : ℕ) (a b c : ℤ) → length xs ≡ 3 → a ≡ pos (ending_number e) → b ≡ pos last → c ≡ pos count
    → set (set (set xs 0 a) 1 b) 2 c ≡ end_numbers e last count
unfolding end_numbers
put_down xs e last count a b c h i j k = three a b c xs h ∙ rw (i, j, k)
