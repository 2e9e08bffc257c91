-- The second one-altitude call's outcomes, and what an accepted one has.
use Rattle.std.specs.Prelude.{Err, Ok}
use Prim.Native.Nat.{ℕ, ◌*◌, ◌<◌}
use mathlib.Core.Path.{◌≡◌, refl, ap, subst}
use mathlib.Core.Bool.{Bool, true, false, ◌&&◌, false≢true}
use mathlib.Core.List.{List}
use native.Mathlib.Nat.{lt_irrefl}
use borrow.Author.Tests.{ne_eqb, ltb-true}
use lib.Dec.{eqb}
use lib.IntN.{ℤ}
use lib.ListN.{length}
use lib.Ieee.{Float, nan, inf, fin, up, down, lt, eq, of_bits}
use Rattle.numbers.specs.Literals.{0·0}
use Rattle.parameters.specs.declared.Parameters.{Parameters}
use Rattle.refusals.specs.Refusals.{Accepted, Answer, Refused, accepted_of}
use Rattle.setting.specs.declared.Input.{Input}
use Rattle.parameter_answer.specs.ParameterAnswer.{answer_with}
use Rattle.parameter_answer.proofs.Theorems.{accepted_fit, accepted_length}
use Rattle.atmosphere.specs.Atmosphere.{eleven_with}
use Rattle.varied_constants.specs.VariedConstants.{row_with}

is_accepted : (a : Answer) → accepted_of a ≡ true → a ≡ Accepted
is_accepted (Ok v) e = refl
is_accepted (Err r) e = absurd (false≢true e)

-- numbers of which one is less differ
apart : (a b : ℕ) → a < b → (eqb b a && true) ≡ false
apart a b h = ap (λ (t : Bool). t && true) (ne_eqb b a (λ e. lt_irrefl a (subst (λ (k : ℕ). a < k) e h)))

-- what lies above a number that is not negative is not that number
above : (x : Float) (n : ℕ) (d : ℤ) → lt (fin false n d) x ≡ true → eq x (fin false n d) ≡ false
unfolding lt eq
above nan n d h = refl
above (inf s) n d h = refl
above (fin true m e) n d h = absurd (false≢true h)
above (fin false m e) n d h = apart (n * up d * down e) (m * up e * down d) (ltb-true (n * up d * down e) (m * up e * down d) h)

above_zero_lem : (x : Float) → lt 0·0 x ≡ true → eq x 0·0 ≡ false
unfolding of_bits
above_zero_lem x h = above x _ _ h

module _ (c : Parameters) (w : List ℤ) (n : Input) where
  pub length_with : (len : ℕ) → accepted_of (answer_with c w n len) ≡ true → len ≡ 11
  length_with len h = accepted_length c w n len (is_accepted _ h)

  pub mass_with : (len : ℕ) → accepted_of (answer_with c w n len) ≡ true → eq c.xmm 0·0 ≡ false
  mass_with len h = above_zero_lem c.xmm (accepted_fit c w n len (is_accepted _ h)).xmm.1

  pub row_kept : (xs : List Float) → accepted_of (answer_with c w n (length xs)) ≡ false → xs ≡ row_with c w n xs
  unfolding row_with
  row_kept xs h = simp h

  pub row_written : (xs : List Float) → accepted_of (answer_with c w n (length xs)) ≡ true → eleven_with c w n ≡ row_with c w n xs
  unfolding row_with
  row_written xs h = simp h
