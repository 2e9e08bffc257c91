-- What users of the second one-altitude call rely on.
use Rattle.std.specs.Prelude.{ℕ, ◌≡◌, refl, true, cond, List, ℤ, length, Float}
use Rattle.std.proofs.Common.{sym, ap, ◌∙◌}
use Rattle.std.specs.Float.Ieee.{lt}
use Rattle.numbers.specs.Arithmetic.{◌‼◌}
use Rattle.numbers.specs.Literals.{72·5}
use Rattle.parameters.specs.Parameters.{present_of}
use Rattle.parameters.specs.declared.Parameters.{Parameters}
use Rattle.refusals.specs.Refusals.{Accepted, Answer, accepted_of}
use Rattle.tables.specs.Tables.{pdm_t2}
use Rattle.setting.specs.declared.Input.{Input}
use Rattle.parameter_answer.specs.ParameterAnswer.{answer_with}
use Rattle.parameter_answer.proofs.Theorems.{present_answer, accepted_judged, accepted_low}
use Rattle.atmosphere.specs.Atmosphere.{eleven_with, eleven_of, left_with, answer_of, row_after}
use Rattle.model_state.specs.Left.{marked_below}
use Rattle.shutoff.specs.Shut.{Alike}
use Rattle.shutoff.proofs.Theorems.{known, eleven_with≡}
use Rattle.varied_constants.specs.VariedConstants.{row_with}

-- The mass of mixed air among the present nine is the tables' own
pub present_mass : present_of.xmm ≡ pdm_t2 ‼ 4
unfolding present_of pdm_t2
present_mass = refl

-- 'the record of these gives the present answers': answer and row are the one-altitude call's
pub present_call : (w : List ℤ) (n : Input) (len : ℕ) → answer_with present_of w n len ≡ answer_of w n len
unfolding answer_of
present_call w n len = present_answer w n len

pub present_row : (w : List ℤ) (n : Input) (xs : List Float) → row_with present_of w n xs ≡ row_after w n xs
unfolding row_with row_after eleven_of
present_row w n xs = ap (λ (a : Answer). cond (accepted_of a) (eleven_with present_of w n) xs) (present_call w n (length xs))

-- An accepted run writes demand 2's numbers with the nine in their places
pub written_with : (c : Parameters) (w : List ℤ) (n : Input) (xs : List Float) → answer_with c w n (length xs) ≡ Accepted → row_with c w n xs ≡ eleven_with c w n
unfolding row_with
written_with c w n xs e = ap (λ (a : Answer). cond (accepted_of a) (eleven_with c w n) xs) e

-- Demand 3, 'when both runs have the same nine'
pub demand_3_with : (c : Parameters) (w : List ℤ) (a b : Input) (xs ys : List Float)
    → Alike w a b
    → answer_with c w a (length xs) ≡ Accepted
    → answer_with c w b (length ys) ≡ Accepted
    → (row_with c w a xs ≡ row_with c w b ys) × (row_with c w a xs ≡ eleven_with c w a) × (row_with c w b ys ≡ eleven_with c w b)
demand_3_with c w a b xs ys like e f =
    let p = written_with c w a xs e in
    let q = written_with c w b ys f in
    (p ∙ eleven_with≡ c w a b like (known w a (accepted_judged c w a (length xs) e)) (known w b (accepted_judged c w b (length ys) f)) ∙ sym q, p, q)

-- In every accepted run below 72.5 km the mark beside dm28 (W-207) is true at the end
pub mixed_with : (c : Parameters) (w : List ℤ) (n : Input) (len : ℕ) → answer_with c w n len ≡ Accepted → lt n.alt 72·5 ≡ true → (left_with c w n).dm28_set ≡ true
mixed_with c w n len e low = let k = accepted_low c w n len e low in marked_below c w n k.0 k.1 low
