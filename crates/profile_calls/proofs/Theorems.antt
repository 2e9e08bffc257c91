-- Theorems on what densu leaves in the slices tn1 and tgn1, whatever the call is handed.
use mathlib.Core.Path.{◌≡◌, refl}
use mathlib.Core.Bool.{Bool, true, false, cond, ◌||◌}
use mathlib.Core.List.{List, [], ◌∷◌}
use Prim.Native.Nat.{ℕ, suc}
use lib.Dec.{ltb}
use lib.ListN.{length, set}
use lib.Ieee.{Float, lt}
use Rattle.numbers.specs.Arithmetic.{◌‼◌}
use Rattle.spline_calls.specs.Outcome.{gives, counted, after}
use Rattle.spline_calls.proofs.Accept.{past}
use Rattle.profile.specs.Profile.{tt_of, gradient_of, tn1_of, tgn1_of}
use Rattle.profile_calls.specs.Calls.{checked, densu_tn1, densu_tgn1}

-- what holds of the slice before and of what the call gives holds of the slice after
either : (n top : ℕ) (zn tn tgn ys xs : List Float) (P : List Float → Type 0) → P xs → P ys
    → P (after (checked n top zn tn tgn (gives ys)) xs)
unfolding checked counted after
either n top zn tn tgn ys xs P p q =
    past (ltb n 2 || ltb top n) 5 top _ xs P p
    (λ e. past (ltb (length zn) n || ltb (length tn) n) 4 n _ xs P p
    (λ f. past (ltb (length tgn) 2) 4 2 (gives ys) xs P p (λ g. q)))

-- a store at 0 leaves the numbers behind it
behind : (xs : List Float) (v : Float) (k : ℕ) → set xs 0 v ‼ suc k ≡ xs ‼ suc k
behind [] v k = refl
behind (x ∷ xs) v k = refl

-- the same where it is made under a test
behind_if : (t : Bool) (xs : List Float) (v : Float) (k : ℕ) → cond t (set xs 0 v) xs ‼ suc k ≡ xs ‼ suc k
behind_if true xs v k = behind xs v k
behind_if false xs v k = refl

module _ (re alt tinf tlb zlb s2 : Float) (mn1 : ℕ) (zn1 tn1 tgn1 : List Float) where
  -- Where alt does not lie below zn1[0], both slices come back as they were.
  pub tn1_above : lt alt (zn1 ‼ 0) ≡ false → densu_tn1 re alt tinf tlb zlb s2 mn1 zn1 tn1 tgn1 ≡ tn1
  unfolding densu_tn1 tn1_of
  tn1_above e = either mn1 5 zn1 tn1 tgn1 _ tn1 (λ (ys : List Float). ys ≡ tn1) refl (rw (e) refl)

  pub tgn1_above : lt alt (zn1 ‼ 0) ≡ false → densu_tgn1 re alt tinf tlb zlb s2 mn1 zn1 tn1 tgn1 ≡ tgn1
  unfolding densu_tgn1 tgn1_of
  tgn1_above e = either mn1 5 zn1 tn1 tgn1 _ tgn1 (λ (ys : List Float). ys ≡ tgn1) refl (rw (e) refl)

  -- Behind element 0 nothing changes in either.
  pub tn1_rest : (k : ℕ) → densu_tn1 re alt tinf tlb zlb s2 mn1 zn1 tn1 tgn1 ‼ suc k ≡ tn1 ‼ suc k
  unfolding densu_tn1 tn1_of
  tn1_rest k = either mn1 5 zn1 tn1 tgn1 _ tn1 (λ (ys : List Float). ys ‼ suc k ≡ tn1 ‼ suc k) refl (behind_if (lt alt (zn1 ‼ 0)) tn1 (tt_of re alt tinf tlb zlb s2 (zn1 ‼ 0)) k)

  pub tgn1_rest : (k : ℕ) → densu_tgn1 re alt tinf tlb zlb s2 mn1 zn1 tn1 tgn1 ‼ suc k ≡ tgn1 ‼ suc k
  unfolding densu_tgn1 tgn1_of
  tgn1_rest k = either mn1 5 zn1 tn1 tgn1 _ tgn1 (λ (ys : List Float). ys ‼ suc k ≡ tgn1 ‼ suc k) refl (behind_if (lt alt (zn1 ‼ 0)) tgn1 (gradient_of re tinf (tt_of re alt tinf tlb zlb s2 (zn1 ‼ 0)) zlb s2 (zn1 ‼ 0)) k)
