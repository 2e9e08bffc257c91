-- What holds of every descent: start minus end is the sum of the losses, it never rises and never falls below 200 km, it can be flown in two parts; 18's
-- place; and what an accepted call's start, settings and list are.
use Rattle.std.specs.Prelude.{ℕ, zero, suc, ◌+◌, ◌-◌, ◌<◌, ◌≤◌, ◌≡◌, refl, Bool, true, false, cond, not, ltb, ℤ, negsuc, ◌+ℤ◌, length, take, drop, get_or, Float}
use Rattle.std.proofs.Common.{sym, ◌∙◌, true≢false, le_refl, arith, ltb-false, take_at}
use Rattle.std.proofs.Math.Path.{ap}
use Rattle.std.proofs.lemmas.Bool.{false≢true}
use mathlib.Core.List.{List, [], ◌∷◌, ◌++◌, map}
use Rattle.std.proofs.Math.IntN.{pos, pos-+ℤ-pos}
use Rattle.std.proofs.lemmas.List.{length-map}
use Rattle.refusals.specs.Refusals.{Accepted, Answer, Refused, accepted_of}
use Rattle.refusals.specs.declared.Reason.{Reason}
use Rattle.refusals.specs.declared.Reason.TheVariants.{ListOfLosses, SettingOutside, StartOutside}
use Rattle.descent_orbits.specs.declared.Ending.{Ending}
use Rattle.descent_orbits.specs.declared.Ending.TheVariants.{NoDensity, Reached, Spent}
use Rattle.descent_orbits.specs.declared.Orbit.{Orbit}
use Rattle.descent_orbits.specs.declared.Orbit.TheVariants.{Ends, Loses}
use Rattle.descent_orbits.specs.Lent.{losses_after}
use Rattle.descent_orbits.specs.DescentOrbits.{lowest_altitude, highest_altitude, density_by_setting, no_density_of, whole_part, orbit_of, Descent, ended, lost, orbit_then, descent_from, start_within, millimetres_of, setting_within, unfit_setting_from, unfit_setting, descent_refusal}

-- ---- an orbit

abbrev pub is_spent : Ending → Bool
is_spent NoDensity = false
is_spent Reached = false
is_spent Spent = true

-- no orbit ends the descent as spent, and one that takes its loss stays at or above 200 km
abbrev pub Sound : ℕ → Orbit → Type 0
Sound a (Ends e) = is_spent e ≡ false
Sound a (Loses l) = lowest_altitude + l ≤ a

pub orbit_sound : (a : ℕ) (x : Float) → Sound a (orbit_of a x)
unfolding orbit_of
orbit_sound a x = go (whole_part x) (no_density_of x) (ltb a (lowest_altitude + whole_part x)) refl
  where
    go : (l : ℕ) (thin low : Bool) → ltb a (lowest_altitude + l) ≡ low → Sound a (cond thin (Ends NoDensity) (cond low (Ends Reached) (Loses l)))
    go l true low e = refl
    go l false true e = refl
    go l false false e = ltb-false a (lowest_altitude + l) e

-- ---- the descent

-- the sum of a list, of natural and of whole numbers
unfoldable pub total : List ℕ → ℕ
total [] = 0
total (l ∷ ls) = l + total ls

unfoldable pub sum : List ℤ → ℤ
sum [] = pos 0
sum (x ∷ xs) = x +ℤ sum xs

sum_total : (ls : List ℕ) → sum (map pos ls) ≡ pos (total ls)
unfolding sum total
sum_total [] = refl
sum_total (l ∷ ls) = ap (λ (z : ℤ). pos l +ℤ z) (sum_total ls) ∙ pos-+ℤ-pos l (total ls)

module _ (d : ℕ → Float) where
  -- what holds of no orbits, of an orbit that ends the descent, and, where it holds of the rest, of an orbit that goes on, holds of every descent
  by_orbit : (P : ℕ → List ℤ → Descent → Type 0)
      → ((a : ℕ) → P a [] (ended Spent a))
      → ((a : ℕ) (e : Ending) (s : ℤ) (ss : List ℤ) → is_spent e ≡ false → P a (s ∷ ss) (ended e a))
      → ((a b l : ℕ) (s : ℤ) (ss : List ℤ) (r : Descent) → b + l ≡ a → lowest_altitude ≤ b → P b ss r → P a (s ∷ ss) (lost l r))
      → (ss : List ℤ) (a : ℕ) → P a ss (descent_from d a ss)
  unfolding descent_from
  by_orbit P none stop on [] a = none a
  by_orbit P none stop on (s ∷ ss) a = go (by_orbit P none stop on ss) (orbit_of a (density_by_setting (d a) s)) (orbit_sound a (density_by_setting (d a) s))
    where
      go : ((k : ℕ) → P k ss (descent_from d k ss)) → (o : Orbit) → Sound a o → P a (s ∷ ss) (orbit_then o a (λ (b : ℕ). descent_from d b ss))
      go rest (Ends e) h = stop a e s ss h
      go rest (Loses l) h = on a (a - l) l s ss (descent_from d (a - l) ss) (omega (arith, h)) (omega (arith, h)) (rest (a - l))

  -- 'Start minus end equals the sum of the losses listed'
  pub start_minus_end : (ss : List ℤ) (a : ℕ) → a ≡ (descent_from d a ss).last + total (descent_from d a ss).losses
  unfolding total
  start_minus_end =
      by_orbit (λ (a : ℕ) (ss : List ℤ) (r : Descent). a ≡ r.last + total r.losses) (λ a. omega arith) (λ a e s ss h. omega arith)
      (λ a b l s ss r h g i. omega (arith, h, i))

  -- the same over the list as it is lent: its first entries, as many as losses were taken
  pub listed_sum : (ss : List ℤ) (a : ℕ) (xs : List ℤ)
      → pos a ≡ pos (descent_from d a ss).last +ℤ sum (take (length (descent_from d a ss).losses) (losses_after (descent_from d a ss) xs))
  unfolding losses_after
  listed_sum ss a xs =
      let r = descent_from d a ss in
      ap pos (start_minus_end ss a)
      ∙ rw (take_at (map pos r.losses) (drop (length r.losses) xs) (length r.losses) (length-map r.losses pos), sum_total r.losses)
      (sym (pos-+ℤ-pos r.last (total r.losses)))

  -- It never rises: it ends at or below its start.
  pub never_rises : (ss : List ℤ) (a : ℕ) → (descent_from d a ss).last ≤ a
  never_rises ss a = omega (arith, start_minus_end ss a)

  -- From 200 km or above it never falls below 200 km.
  pub stays_above : (ss : List ℤ) (a : ℕ) → lowest_altitude ≤ a → lowest_altitude ≤ (descent_from d a ss).last
  stays_above =
      by_orbit (λ (a : ℕ) (ss : List ℤ) (r : Descent). lowest_altitude ≤ a → lowest_altitude ≤ r.last) (λ a h. h) (λ a e s ss g h. h) (λ a b l s ss r h g i j. i g)

  -- At most one loss for each setting, and one for each where it ends as spent.
  pub losses_few : (ss : List ℤ) (a : ℕ) → length (descent_from d a ss).losses ≤ length ss
  losses_few =
      by_orbit (λ (a : ℕ) (ss : List ℤ) (r : Descent). length r.losses ≤ length ss) (λ a. omega arith) (λ a e s ss h. omega arith)
      (λ a b l s ss r h g i. omega (arith, i))

  pub all_done : (ss : List ℤ) (a : ℕ) → (descent_from d a ss).ending ≡ Spent → length (descent_from d a ss).losses ≡ length ss
  all_done =
      by_orbit (λ (a : ℕ) (ss : List ℤ) (r : Descent). r.ending ≡ Spent → length r.losses ≡ length ss) (λ a h. refl)
      (λ a e s ss h g. absurd (true≢false (sym (ap (λ (k : Ending). is_spent k) g) ∙ h))) (λ a b l s ss r h g i j. ap suc (i j))

-- ---- in two parts

-- a descent r, and q after it
abbrev pub joined : Descent → Descent → Descent
joined r q = record { ending = q.ending; last = q.last; losses = r.losses ++ q.losses }

-- r, and where it is spent what f gives from its last altitude on
abbrev pub continued : Descent → (ℕ → Descent) → Descent
continued r f = cond (is_spent r.ending) (joined r (f r.last)) r

later_joined : (l : ℕ) (r : Descent) (f : ℕ → Descent) (b : Bool) → lost l (cond b (joined r (f r.last)) r) ≡ cond b (joined (lost l r) (f r.last)) (lost l r)
later_joined l r f true = refl
later_joined l r f false = refl

-- The descent over all settings is the one over the first of them, and from where that ended the one over the rest if it is spent; if it ended as no
-- density or reached, nothing comes after it.
pub in_parts : (d : ℕ → Float) (ts ss : List ℤ) (a : ℕ) → descent_from d a (ss ++ ts) ≡ continued (descent_from d a ss) (λ (b : ℕ). descent_from d b ts)
unfolding descent_from
in_parts d ts [] a = refl
in_parts d ts (s ∷ ss) a = go (in_parts d ts ss) (orbit_of a (density_by_setting (d a) s)) (orbit_sound a (density_by_setting (d a) s))
  where
    f : ℕ → Descent
    f b = descent_from d b ts

    go : ((b : ℕ) → descent_from d b (ss ++ ts) ≡ continued (descent_from d b ss) f) → (o : Orbit) → Sound a o
        → orbit_then o a (λ (b : ℕ). descent_from d b (ss ++ ts)) ≡ continued (orbit_then o a (λ (b : ℕ). descent_from d b ss)) f
    go rest (Ends e) h = rw h
    go rest (Loses l) h = ap (lost l) (rest (a - l)) ∙ later_joined l (descent_from d (a - l) ss) f (is_spent (descent_from d (a - l) ss).ending)

other : (e : Ending) → (e ≡ Spent → ⊥) → is_spent e ≡ false
other NoDensity h = refl
other Reached h = refl
other Spent h = absurd (h refl)

module _ (d : ℕ → Float) (ss ts : List ℤ) (a : ℕ) where
  pub spent_then : (descent_from d a ss).ending ≡ Spent → descent_from d a (ss ++ ts) ≡ joined (descent_from d a ss) (descent_from d (descent_from d a ss).last ts)
  spent_then e =
      in_parts d ts ss a
      ∙ ap (λ (b : Bool). cond b (joined (descent_from d a ss) (descent_from d (descent_from d a ss).last ts)) (descent_from d a ss)) (ap (λ (k : Ending). is_spent k) e)

  pub ended_then : ((descent_from d a ss).ending ≡ Spent → ⊥) → descent_from d a (ss ++ ts) ≡ descent_from d a ss
  ended_then e =
      in_parts d ts ss a
      ∙ ap (λ (b : Bool). cond b (joined (descent_from d a ss) (descent_from d (descent_from d a ss).last ts)) (descent_from d a ss)) (other _ e)

  -- More orbits never end higher.
  pub lower_with_more : (descent_from d a (ss ++ ts)).last ≤ (descent_from d a ss).last
  lower_with_more = rw (in_parts d ts ss a) (go (is_spent (descent_from d a ss).ending))
    where
      r : Descent
      r = descent_from d a ss

      go : (b : Bool) → (cond b (joined r (descent_from d r.last ts)) r).last ≤ r.last
      go true = never_rises d ts r.last
      go false = le_refl _

-- ---- densities

-- The descent reads the density at altitudes from 200 to 1,000 km only, where it starts there.
pub same_descent : (d e : ℕ → Float) → ((a : ℕ) → lowest_altitude ≤ a → a ≤ highest_altitude → d a ≡ e a) → (ss : List ℤ) (a : ℕ) → lowest_altitude ≤ a → a ≤ highest_altitude
    → descent_from d a ss ≡ descent_from e a ss
unfolding descent_from
same_descent d e same [] a h g = refl
same_descent d e same (s ∷ ss) a h g =
    rw (same a h g) (go (same_descent d e same ss) (orbit_of a (density_by_setting (e a) s)) (orbit_sound a (density_by_setting (e a) s)))
  where
    go : ((b : ℕ) → lowest_altitude ≤ b → b ≤ highest_altitude → descent_from d b ss ≡ descent_from e b ss) → (o : Orbit) → Sound a o
        → orbit_then o a (λ (b : ℕ). descent_from d b ss) ≡ orbit_then o a (λ (b : ℕ). descent_from e b ss)
    go rest (Ends k) f = refl
    go rest (Loses l) f = ap (lost l) (rest (a - l) (omega (arith, f)) (omega (arith, g)))

-- ---- refusals

none : (b : Bool) (n : Reason) (k : ℕ) (x : Answer) → accepted_of (cond b (Refused n k) x) ≡ true → (b ≡ false) × (accepted_of x ≡ true)
none true n k x e = absurd (false≢true e)
none false n k x e = (refl, e)

positive : (b : Bool) → not b ≡ false → b ≡ true
positive true e = refl
positive false e = absurd (true≢false e)

-- the settings from the i-th on, u the index that is found among them
abbrev Before : ℕ → List ℤ → ℕ → Type 0
Before i ss u = (k : ℕ) → i + k < u → setting_within (get_or ss k (pos 0)) ≡ true

abbrev There : ℕ → List ℤ → ℕ → Type 0
There i ss u = u < i + length ss → setting_within (get_or ss (u - i) (pos 0)) ≡ false

first_from_lem : (ss : List ℤ) (i : ℕ) → (i ≤ unfit_setting_from i ss) × Before i ss (unfit_setting_from i ss) × There i ss (unfit_setting_from i ss)
unfolding unfit_setting_from
first_from_lem [] i = (le_refl i, (λ k h. absurd (no k h)), (λ h. absurd (over h)))
  where
    no : (k : ℕ) → i + k < i → ⊥
    no k h = omega arith

    over : i < i + 0 → ⊥
    over h = omega arith
first_from_lem (s ∷ ss) i = go (setting_within s) refl (first_from_lem ss (i + 1))
  where
    go : (b : Bool) → setting_within s ≡ b → (i + 1 ≤ unfit_setting_from (i + 1) ss) × Before (i + 1) ss (unfit_setting_from (i + 1) ss) × There (i + 1) ss (unfit_setting_from (i + 1) ss)
        → (i ≤ cond (not b) i (unfit_setting_from (i + 1) ss)) × Before i (s ∷ ss) (cond (not b) i (unfit_setting_from (i + 1) ss)) × There i (s ∷ ss) (cond (not b) i (unfit_setting_from (i + 1) ss))
    go true e r = (omega (arith, r.0), earlier, there)
      where
        earlier : Before i (s ∷ ss) (unfit_setting_from (i + 1) ss)
        earlier zero h = e
        earlier (suc k) h = r.1 k (omega arith)

        there : There i (s ∷ ss) (unfit_setting_from (i + 1) ss)
        there h =
            let m : unfit_setting_from (i + 1) ss - i ≡ suc (unfit_setting_from (i + 1) ss - (i + 1)) = omega (arith, r.0) in
            rw m (r.2 (omega arith))
    go false e r = (le_refl i, (λ k h. absurd (no k h)), (λ h. rw zeroed e))
      where
        no : (k : ℕ) → i + k < i → ⊥
        no k h = omega arith

        zeroed : i - i ≡ 0
        zeroed = omega arith

-- 18's place, less one: every setting before it is from 1 to 4, and the one there is not.
pub before_unfit : (ss : List ℤ) (k : ℕ) → k < unfit_setting ss → setting_within (get_or ss k (pos 0)) ≡ true
before_unfit ss k h = (first_from_lem ss 0).1 k (omega arith)

pub first_unfit_lem : (ss : List ℤ) → unfit_setting ss < length ss → setting_within (get_or ss (unfit_setting ss) (pos 0)) ≡ false
first_unfit_lem ss h =
    let z : unfit_setting ss - 0 ≡ unfit_setting ss = omega arith in
    rw z at ((first_from_lem ss 0).2 (omega arith))

-- what is met by no refusal of the descent's own
pub record Met (start : ℤ) (ss : List ℤ) (room : ℕ) : Type 0 where
  pub within : start_within start ≡ true
  pub set : length ss ≤ unfit_setting ss
  pub few : length ss ≤ 10000
  pub fits : length ss ≤ room

pub accepted_met : (start : ℤ) (ss : List ℤ) (room : ℕ) → accepted_of (descent_refusal start ss room) ≡ true → Met start ss room
unfolding descent_refusal
accepted_met start ss room h =
    let a = none (not (start_within start)) StartOutside 0 _ h in
    let b = none (ltb (unfit_setting ss) (length ss)) SettingOutside (unfit_setting ss + 1) _ a.1 in
    let c = none (ltb 10000 (length ss)) ListOfLosses 10000 _ b.1 in
    let e = none (ltb room (length ss)) ListOfLosses (length ss) Accepted c.1 in
    record { within = positive _ a.0; set = ltb-false _ _ b.0; few = ltb-false _ _ c.0; fits = ltb-false _ _ e.0 }

-- a start that is accepted is its millimetres
pub whole_start : (start : ℤ) → start_within start ≡ true → start ≡ pos (millimetres_of start)
whole_start (pos a) h = refl
whole_start (negsuc a) h = absurd (false≢true h)
