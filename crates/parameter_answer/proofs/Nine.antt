-- The first of the nine that is unfit, by its place among the tests.
use Rattle.std.specs.Prelude.{ℕ, suc, ◌+◌, ◌<◌, ◌≡◌, refl, Bool, true, false, cond, length, ltb, List, [], ◌∷◌, Option, Some, None, position}
use Rattle.std.proofs.Common.{ap, arith, sym, ◌∙◌}
use Rattle.std.proofs.lemmas.Bool.{lt-ltb}
use Rattle.std.proofs.lemmas.Option.{cond_some, none-some}
use Rattle.acceptance.specs.Acceptance.{lowest}
use Rattle.acceptance.proofs.Lowest.{lowest_some, lowest_none}
use Rattle.parameter_answer.specs.ParameterAnswer.{one_of_nine, among_nine}

module _ (a b c d e f g h i : Bool) where
  abbrev tests : List Bool
  tests = a ∷ b ∷ c ∷ d ∷ e ∷ f ∷ g ∷ h ∷ i ∷ []

  pub nine_some : (k : ℕ) → position (λ x. x) (a ∷ b ∷ c ∷ d ∷ e ∷ f ∷ g ∷ h ∷ i ∷ []) ≡ Some k → Some (1 + k) ≡ among_nine (lowest 1 (a ∷ b ∷ c ∷ d ∷ e ∷ f ∷ g ∷ h ∷ i ∷ []) 10)
  unfolding one_of_nine
  nine_some k e =
      let at = lowest_some (λ (x : Bool). x) 1 tests 10 k e in
      let below : 1 + k < 10 = omega (arith, at.1) in
      rw at.0 (rw (lt-ltb (1 + k) 10 below) refl)

  pub nine_none : position (λ x. x) (a ∷ b ∷ c ∷ d ∷ e ∷ f ∷ g ∷ h ∷ i ∷ []) ≡ None → None ≡ among_nine (lowest 1 (a ∷ b ∷ c ∷ d ∷ e ∷ f ∷ g ∷ h ∷ i ∷ []) 10)
  unfolding one_of_nine
  nine_none e = rw (lowest_none (λ (x : Bool). x) 1 tests 10 e) refl

-- what `among_nine` says of a position
pub is_one : (k m : ℕ) → among_nine k ≡ Some m → (one_of_nine k ≡ true) × (k ≡ m)
is_one k m e = cond_some (one_of_nine k) k m e

pub is_none : (k : ℕ) → among_nine k ≡ None → one_of_nine k ≡ false
is_none k e = by_cases (one_of_nine k) e where
  by_cases : (b : Bool) → cond b (Some k) None ≡ None → b ≡ false
  by_cases true e = absurd (none-some k (sym e))
  by_cases false e = refl
