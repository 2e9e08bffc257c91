-- A descent flown turn by turn over a given density, with its losses written as they are taken.
use mathlib.Core.Path.{◌≡◌, refl, sym, ap, ◌∙◌, subst}
use mathlib.Core.List.{List, [], ◌∷◌, ◌++◌, map, map-append, append-nil}
use Prim.Native.Nat.{ℕ, suc, ◌+◌, ◌-◌, ◌<◌, ◌≤◌}
use native.Mathlib.Numerals.{add-one}
use native.Mathlib.Omega.{arith}
use lib.IntN.{ℤ, pos}
use lib.ListN.{length, drop, get_or, set, length-map, length-append}
use lib.Seq.{append_snoc, drop-cons, drop-length, set_at}
use lib.Ieee.{Float}
use Rattle.descent_orbits.specs.declared.Ending.{Ending}
use Rattle.descent_orbits.specs.declared.Ending.TheVariants.{Spent}
use Rattle.descent_orbits.specs.declared.Orbit.{Orbit}
use Rattle.descent_orbits.specs.declared.Orbit.TheVariants.{Ends, Loses}
use Rattle.descent_orbits.specs.declared.Descended.{Descended}
use Rattle.descent_orbits.specs.DescentOrbits.{lowest_altitude, density_by_setting, orbit_of, Descent, ended, lost, orbit_then, descent_from}
use Rattle.descent_orbits.specs.Lent.{end_of_descent, losses_after, Ended}
use Rattle.descent_orbits.specs.Theorems.{Sound, orbit_sound}

-- a descent with losses before it
abbrev led : List ℕ → Descent → Descent
led done r = record { ending = r.ending; last = r.last; losses = done ++ r.losses }

-- i orbits are flown down to a, and xs is the list so far; ys is what it was before
pub record Flown (d : ℕ → Float) (start : ℕ) (ss ys : List ℤ) (a i : ℕ) (xs : List ℤ) : Type 0 where
  pub done : List ℕ
  pub count : length done ≡ i
  pub whole : descent_from d start ss ≡ led done (descent_from d a (drop i ss))
  pub listed : xs ≡ map pos done ++ drop i ys

-- what is answered and what is written
abbrev pub Answered : (ℕ → Float) → ℕ → List ℤ → List ℤ → Descended → List ℤ → Type 0
Answered d start ss ys e xs = (e ≡ end_of_descent (descent_from d start ss)) × (xs ≡ losses_after (descent_from d start ss) ys)

-- an orbit that takes its loss stays at or above 200 km
pub sunk : (a l : ℕ) (x : Float) (o : Orbit) → o ≡ orbit_of a x → o ≡ Loses l → lowest_altitude + l ≤ a
sunk a l x o p g = subst (Sound a) (sym p ∙ g) (orbit_sound a x)

module _ (d : ℕ → Float) (start : ℕ) (ss ys : List ℤ) where
  pub begun : Flown d start ss ys start 0 ys
  begun = record { done = []; count = refl; whole = refl; listed = refl }

  module _ (a i : ℕ) (xs : List ℤ) (f : Flown d start ss ys a i xs) where
    -- the descent ends here
    here : (e : Ending) → descent_from d a (drop i ss) ≡ ended e a → Answered d start ss ys (Ended e a i) xs
    unfolding end_of_descent losses_after
    here e g =
        let w : descent_from d start ss ≡ led f.done (ended e a) = f.whole ∙ ap (led f.done) g in
        let n : length (f.done ++ []) ≡ i = ap length (append-nil f.done) ∙ f.count in
        (rw (w, n), f.listed ∙ rw (w, n, append-nil))

    pub all_flown : i ≡ length ss → Answered d start ss ys (Ended Spent a i) xs
    unfolding descent_from
    all_flown h = here Spent (rw (h, drop-length ss))

    module _ (h : i < length ss) (o : Orbit) (p : o ≡ orbit_of a (density_by_setting (d a) (get_or ss i (pos 0)))) where
      next : descent_from d a (drop i ss) ≡ orbit_then o a (λ (b : ℕ). descent_from d b (drop (suc i) ss))
      unfolding descent_from
      next = rw (drop-cons ss i (pos 0) h, p)

      pub stopped : (e : Ending) → o ≡ Ends e → Answered d start ss ys (Ended e a i) xs
      stopped e g = here e (next ∙ rw g)

      pub flies : (l : ℕ) → o ≡ Loses l → length ss ≤ length ys → Flown d start ss ys (a - l) (i + 1) (set xs i (pos l))
      flies l g m =
          record {
            done = f.done ++ (l ∷ []);
            count = length-append f.done (l ∷ []) ∙ omega (arith, f.count);
            whole = f.whole ∙ (ap (led f.done) (next ∙ rw g) ∙ longer);
            listed = written;
          }
        where
          longer : led f.done (lost l (descent_from d (a - l) (drop (suc i) ss))) ≡ led (f.done ++ (l ∷ [])) (descent_from d (a - l) (drop (i + 1) ss))
          longer = rw (append_snoc, add-one)

          written : set xs i (pos l) ≡ map pos (f.done ++ (l ∷ [])) ++ drop (i + 1) ys
          written =
              rw (
                f.listed,
                drop-cons ys i (pos 0) (omega arith),
                set_at (map pos f.done) (get_or ys i (pos 0)) (drop (suc i) ys) (pos l) i (length-map f.done pos ∙ f.count),
                map-append,
                append_snoc,
                add-one,
              )
