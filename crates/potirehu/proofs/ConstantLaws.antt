-- The outcomes of the host's call with nine constants, by the tests on its slices.
use Prim.Native.Nat.{ℕ}
use mathlib.Core.Path.{◌≡◌, sym, ◌∙◌, ap}
use mathlib.Core.Bool.{Bool, true, false, cond}
use mathlib.Core.List.{List}
use lib.IntN.{ℤ}
use lib.ListN.{length}
use lib.Ieee.{Float}
use Rattle.parameters.specs.declared.Parameters.{Parameters}
use Rattle.refusals.specs.Refusals.{Accepted, Answer, accepted_of}
use Rattle.setting.specs.declared.Input.{Input}
use Rattle.parameter_answer.specs.ParameterAnswer.{answer_with}
use Rattle.varied_constants.specs.VariedConstants.{row_with}
use Rattle.host_record.specs.Record.{code_of, record_of}
use Rattle.host_record.specs.Nine.{nine_of, lengths_with}
use Rattle.host_record.proofs.NineLaws.{stopped_with, passed_with}
use Rattle.potirehu.specs.Constants.{host_with, host_with_row}

module _ (x : List Float) (year doy : ℤ) (f l : List Float) (w : List ℤ) (xs : List Float) (a : Answer) (e : a ≡ lengths_with x (length xs) f l w Accepted) where
  abbrev pub Outcome : ℕ → List Float → Type 0
  Outcome v ys = (v ≡ code_of (host_with x year doy f l w (length xs))) × (ys ≡ host_with_row x year doy f l w xs)

  -- a slice has not its length, or a constant is unfit
  pub not_called : accepted_of a ≡ false → (v : ℕ) → v ≡ code_of a → Outcome v xs
  unfolding host_with host_with_row
  not_called t v e0 = (
    e0 ∙ ap code_of (sym (stopped_with x (length xs) f l w a e t (answer_with (nine_of x) w (record_of year doy f l) (length xs)))),
    sym (ap (λ (b : Bool). cond b (row_with (nine_of x) w (record_of year doy f l) xs) xs) (sym (ap accepted_of e) ∙ t)),
  )

  -- the call behind it
  pub called : accepted_of a ≡ true → (v : ℕ) (r : Answer) (c : Parameters) (n : Input) (row : List ℤ) (ys : List Float)
      → v ≡ code_of r
      → r ≡ answer_with c row n (length xs)
      → ys ≡ row_with c row n xs
      → c ≡ nine_of x
      → n ≡ record_of year doy f l
      → row ≡ w
      → Outcome v ys
  unfolding host_with host_with_row
  called t v r c n row ys e0 e1 e2 e3 e4 e5 =
      let k = passed_with x (length xs) f l w a e t (answer_with (nine_of x) w (record_of year doy f l) (length xs)) in
      let s = sym (ap accepted_of e) ∙ t in
      (simp (e0, e1, e3, e4, e5, k), simp (e2, e3, e4, e5, s))
