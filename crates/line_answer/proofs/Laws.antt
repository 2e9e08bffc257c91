-- The answer's text by the form that a line is.
use Rattle.std.specs.Prelude.{Err, Ok}
use mathlib.Core.Path.{◌≡◌, refl, sym, ap, ◌∙◌}
use mathlib.Core.Bool.{true, false, cond}
use mathlib.Core.List.{List}
use Prim.Native.Nat.{ℕ, ◌≤◌}
use lib.IntN.{ℤ}
use lib.ListN.{length}
use lib.Ieee.{Float}
use Rattle.refusals.specs.Refusals.{Answer, accepted_of}
use Rattle.setting.specs.declared.Input.{Input}
use Rattle.atmosphere.specs.Atmosphere.{eleven_of, answer_of, row_after}
use Rattle.line_form.specs.declared.Reading.{Reading}
use Rattle.line_form.specs.declared.Run.{Run}
use Rattle.line_form.specs.Grammar.{dnet_form_of, ccor_form_of, run_form_of, switches_of, input_of}
use Rattle.line_text.proofs.Choice.{cond_true, cond_false}
use Rattle.line_text.specs.Text.{Writes, value_text, refused_text}
use Rattle.line_answer.specs.Answer.{dnet_value, ccor_value, outcome_text, run_answer, answer_text}

-- ---- a text for an equal one

pub same_text : (b c s t : List ℕ) (at r : ℕ) → s ≡ t → Writes b at s c r × (length s ≤ 193) → Writes b at t c r × (length t ≤ 193)
same_text b c s t at r e w = rw e at w

-- ---- a run form

pub run_is : (f : Run) (w : List ℤ) (n : Input) (a : Answer) (xs ys : List Float) → w ≡ switches_of f.reading → n ≡ input_of f → length xs ≡ 11
    → a ≡ answer_of w n (length xs) → ys ≡ row_after w n xs → outcome_text a ys ≡ run_answer f
unfolding run_answer row_after
run_is f w n a xs ys e g l h k =
    let b : a ≡ answer_of w n 11 = h ∙ ap (answer_of w n) l in
    let d : ys ≡ cond (accepted_of (answer_of w n 11)) (eleven_of w n) xs = k ∙ ap (λ (m : ℕ). cond (accepted_of (answer_of w n m)) (eleven_of w n) xs) l in
    rw (b, d) (by (answer_of w n 11) ∙ rw (e, g))
  where
    by : (q : Answer) → outcome_text q (cond (accepted_of q) (eleven_of w n) xs) ≡ outcome_text q (eleven_of w n)
    by (Ok v) = refl
    by (Err r) = refl

-- ---- a line

module _ (s : List ℕ) (number : ℕ) (a : Reading) (e : a ≡ dnet_form_of s) where
  pub dnet_line : (x : Float) → a.ok ≡ true → x ≡ dnet_value a → value_text x ≡ answer_text s number
  unfolding answer_text
  dnet_line x t f = ap value_text (f ∙ ap dnet_value e) ∙ cond_true _ _ _ (ap (λ (q : Reading). q.ok) (sym e) ∙ t)

  module _ (u : a.ok ≡ false) (b : Reading) (g : b ≡ ccor_form_of s) where
    no_dnet : (dnet_form_of s).ok ≡ false
    no_dnet = ap (λ (q : Reading). q.ok) (sym e) ∙ u

    pub ccor_line : (x : Float) → b.ok ≡ true → x ≡ ccor_value b → value_text x ≡ answer_text s number
    unfolding answer_text
    ccor_line x t f = ap value_text (f ∙ ap ccor_value g) ∙ (cond_true _ _ _ (ap (λ (q : Reading). q.ok) (sym g) ∙ t) ∙ cond_false _ _ _ no_dnet)

    module _ (v : b.ok ≡ false) (c : Run) (h : c ≡ run_form_of s) where
      no_ccor : (ccor_form_of s).ok ≡ false
      no_ccor = ap (λ (q : Reading). q.ok) (sym g) ∙ v

      pub run_line : c.reading.ok ≡ true → run_answer c ≡ answer_text s number
      unfolding answer_text
      run_line t = ap run_answer h ∙ (cond_true _ _ _ (ap (λ (q : Run). q.reading.ok) (sym h) ∙ t) ∙ (cond_false _ _ _ no_ccor ∙ cond_false _ _ _ no_dnet))

      pub no_line : c.reading.ok ≡ false → refused_text 7 number ≡ answer_text s number
      unfolding answer_text
      no_line t = cond_false _ _ _ (ap (λ (q : Run). q.reading.ok) (sym h) ∙ t) ∙ (cond_false _ _ _ no_ccor ∙ cond_false _ _ _ no_dnet)
