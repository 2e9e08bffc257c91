-- The season's parts, from the values of the calls.
use Prim.Native.Nat.{ℕ, ◌%◌, ◌≤◌}
use mathlib.Core.Path.{◌≡◌, refl, sym, ◌∙◌}
use mathlib.Core.Bool.{Bool, true, false, cond}
use mathlib.Core.List.{List}
use borrow.Author.Tests.{eq-eqb, ne_eqb}
use lib.Dec.{eqb, lit≤}
use lib.Ieee.{Float}
use Rattle.numbers.specs.Arithmetic.{◌⊖◌, ◌⊗◌, ◌‼◌}
use Rattle.numbers.specs.Literals.{0·0, 2·0}
use Rattle.numbers.specs.Constants.{dr}
use Rattle.elementary.specs.Trig.{cos_of}
use Rattle.needed_sets.specs.declared.Need.{Need}
use Rattle.needed_sets.specs.NeededSets.{glob7s_end}
use Rattle.views.specs.Phases.{annual_cos_of, semiannual_cos_of}
use Rattle.season_phases.specs.Phases.{place_phases}
use Rattle.season.specs.Season.{place_cosine, first_set, filled_sets, glob7s_season}

pub of_phase_zero : (doy : Float) (i : ℕ) (x year half r : Float)
    → r ≡ cond (eqb (i % 2) 0) year half
    → year ≡ annual_cos_of doy 0·0
    → half ≡ semiannual_cos_of doy 0·0
    → x ≡ 0·0
    → x ≡ place_phases ‼ i
    → r ≡ place_cosine doy i
unfolding place_cosine
of_phase_zero doy i x year half r e0 e1 e2 e3 e4 = rw (e0, e1, e2, sym e4 ∙ e3)

one_cosine : (b : Bool) (y : Float) → cos_of (cond b dr (2·0 ⊗ dr) ⊗ y) ≡ cond b (cos_of (dr ⊗ y)) (cos_of (2·0 ⊗ dr ⊗ y))
one_cosine true y = refl
one_cosine false y = refl

pub of_a_phase : (doy : Float) (i : ℕ) (x q r : Float)
    → r ≡ cos_of (q ⊗ (doy ⊖ x))
    → q ≡ cond (eqb (i % 2) 0) dr (2·0 ⊗ dr)
    → x ≡ place_phases ‼ i
    → r ≡ place_cosine doy i
unfolding place_cosine annual_cos_of semiannual_cos_of
of_a_phase doy i x q r e0 e1 e2 = e0 ∙ rw (e1, e2) (one_cosine (eqb (i % 2) 0) (doy ⊖ place_phases ‼ i))

-- ---- glob7s' places

pub first_end : (n : Need) → (glob7s_end n ≡ 0 → ⊥) → first_set n ≤ glob7s_end n
first_end n = go n.tropo n.meso n.nodes
  where
    go : (t m o : Bool) → (◌≡◌ {A = ℕ} (cond t 14 (cond m 9 (cond o 5 0))) 0 → ⊥) → cond o 0 5 ≤ cond t 14 (cond m 9 (cond o 5 0))
    go true m true h = lit≤ tt
    go true m false h = lit≤ tt
    go false true true h = lit≤ tt
    go false true false h = lit≤ tt
    go false false true h = lit≤ tt
    go false false false h = absurd (h refl)

module _ (doy : Float) (n : Need) (long : Bool) (s : List Float) (end : ℕ) (e : end ≡ glob7s_end n) where
  pub none_needed : end ≡ 0 → s ≡ glob7s_season doy n long s
  unfolding glob7s_season
  none_needed h = rw (eq-eqb (glob7s_end n) 0 (sym e ∙ h))

  module _ (h : end ≡ 0 → ⊥) (first : ℕ) (f : first ≡ first_set n) (t : List Float) (l : t ≡ filled_sets doy 44 first end s) where
    pub without_longitude : long ≡ false → t ≡ glob7s_season doy n long s
    unfolding glob7s_season
    without_longitude z = rw (ne_eqb (glob7s_end n) 0 (λ q. h (e ∙ q)), z) (rw (e, f) at l)

    pub with_longitude : (u : List Float) → u ≡ filled_sets doy 100 first end t → long ≡ true → u ≡ glob7s_season doy n long s
    unfolding glob7s_season
    with_longitude u g z = rw (ne_eqb (glob7s_end n) 0 (λ q. h (e ∙ q)), z) (rw (e, f) at (rw l at g))
