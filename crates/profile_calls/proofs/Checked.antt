-- A set of nodes, checked: what follows a refusal, and what follows a set that is fit.
use mathlib.Core.Path.{◌≡◌, refl, ap, ◌∙◌}
use mathlib.Core.Bool.{Bool, true, false, cond, ◌||◌}
use mathlib.Core.List.{List}
use Prim.Native.Nat.{ℕ}
use lib.Dec.{ltb}
use lib.ListN.{length}
use lib.Ieee.{Float}
use Rattle.std.proofs.Common.{Result, Ok, Err}
use Rattle.spline_calls.specs.declared.NodesRefusal.{NodesRefusal}
use Rattle.spline_calls.specs.Outcome.{Outcome, gives, refused, counted}
use Rattle.spline_calls.specs.Calls.{outcome_of}
use Rattle.spline_calls.proofs.Accept.{carried, carried_err}
use Rattle.profile_calls.specs.Calls.{checked}

module _ {A : Type 0} (o : Outcome A) (n top : ℕ) (zn tn tgn : List Float) where
  set_carried : carried (checked n top zn tn tgn (gives tt)) o ≡ checked n top zn tn tgn o
  unfolding carried checked counted
  set_carried = by (ltb n 2 || ltb top n) (ltb (length zn) n || ltb (length tn) n) (ltb (length tgn) 2)
    where
      by : (s t u : Bool) → carried (cond s (refused 5 top) (cond t (refused 4 n) (cond u (refused 4 2) (gives tt)))) o
          ≡ cond s (refused 5 top) (cond t (refused 4 n) (cond u (refused 4 2) o))
      by true t u = refl
      by false true u = refl
      by false false true = refl
      by false false false = refl

  pub set_stops : (e : NodesRefusal) (r : Result A NodesRefusal) → r ≡ Err e → outcome_of {A = Unit {0}} (Err e) ≡ checked n top zn tn tgn (gives tt)
      → outcome_of r ≡ checked n top zn tn tgn o
  set_stops e r i h = ap (λ (q : Result A NodesRefusal). outcome_of q) i ∙ carried_err e o ∙ ap (λ (w : Outcome (Unit {0})). carried w o) h ∙ set_carried

  pub set_goes_on : (u : Unit {0}) → outcome_of {A = Unit {0}} (Ok u) ≡ checked n top zn tn tgn (gives tt) → o ≡ checked n top zn tn tgn o
  unfolding carried
  set_goes_on u h = ap (λ (w : Outcome (Unit {0})). carried w o) h ∙ set_carried
