-- The slices of the call with nine constants: what their own answer says of the call's.
use Prim.Native.Nat.{ℕ}
use mathlib.Core.Path.{◌≡◌, refl, sym, ◌∙◌, ap}
use mathlib.Core.Bool.{Bool, true, false, cond, not, ◌&&◌, true≢false, false≢true}
use mathlib.Core.List.{List}
use borrow.Author.Tests.{eqb-true}
use lib.Dec.{eqb}
use lib.IntN.{ℤ}
use lib.ListN.{length}
use lib.Ieee.{Float}
use Rattle.refusals.specs.Refusals.{Accepted, Answer, Refused, accepted_of}
use Rattle.refusals.specs.declared.Reason.TheVariants.{ConstantUnfit, WrongLength}
use Rattle.parameter_answer.specs.ParameterAnswer.{first_unfit, one_of_nine}
use Rattle.host_record.specs.Record.{lengths_of}
use Rattle.host_record.specs.Nine.{nine_of, lengths_with}

-- the tests in turn: the nine, a constant with its place k, the row, the fields, the array, the switches
abbrev tests : Bool → Bool → ℕ → Bool → Bool → Bool → Bool → Answer → Answer
tests a b k c d e g rest =
    cond (not a) (Refused WrongLength 9) (cond b (Refused ConstantUnfit k) (cond (not c) (Refused WrongLength 11) (cond (not d) (Refused WrongLength 8) (cond e (Refused WrongLength 7) (cond (not g) (Refused WrongLength 24) rest)))))

halted : (a b : Bool) (k : ℕ) (c d e g : Bool) (rest : Answer) → accepted_of (tests a b k c d e g Accepted) ≡ false
    → tests a b k c d e g rest ≡ tests a b k c d e g Accepted
halted false b k c d e g rest h = refl
halted true true k c d e g rest h = refl
halted true false k false d e g rest h = refl
halted true false k true false e g rest h = refl
halted true false k true true true g rest h = refl
halted true false k true true false false rest h = refl
halted true false k true true false true rest h = absurd (true≢false h)

all_passed : (a b : Bool) (k : ℕ) (c d e g : Bool) → accepted_of (tests a b k c d e g Accepted) ≡ true
    → (a ≡ true) × (d ≡ true) × (g ≡ true) × ((rest : Answer) → tests a b k c d e g rest ≡ rest)
all_passed false b k c d e g h = absurd (false≢true h)
all_passed true true k c d e g h = absurd (false≢true h)
all_passed true false k false d e g h = absurd (false≢true h)
all_passed true false k true false e g h = absurd (false≢true h)
all_passed true false k true true true g h = absurd (false≢true h)
all_passed true false k true true false false h = absurd (false≢true h)
all_passed true false k true true false true h = (refl, refl, refl, λ rest. refl)

module _ (x : List Float) (len : ℕ) (f l : List Float) (w : List ℤ) (a : Answer) (e : a ≡ lengths_with x len f l w Accepted) where
  -- refused, it is the call's answer
  pub stopped_with : accepted_of a ≡ false → (rest : Answer) → lengths_with x len f l w rest ≡ a
  unfolding lengths_with lengths_of
  stopped_with t rest =
      halted (eqb (length x) 9) (one_of_nine (first_unfit (nine_of x))) (first_unfit (nine_of x)) (eqb len 11) (eqb (length f) 8)
      (not (eqb (length l) 0) && not (eqb (length l) 7)) (eqb (length w) 24) rest (sym (ap accepted_of e) ∙ t)
      ∙ sym e

  module _ (t : accepted_of a ≡ true) where
    fit : (eqb (length x) 9 ≡ true) × (eqb (length f) 8 ≡ true) × (eqb (length w) 24 ≡ true) × ((rest : Answer) → lengths_with x len f l w rest ≡ rest)
    unfolding lengths_with lengths_of
    fit =
        all_passed (eqb (length x) 9) (one_of_nine (first_unfit (nine_of x))) (first_unfit (nine_of x)) (eqb len 11) (eqb (length f) 8)
        (not (eqb (length l) 0) && not (eqb (length l) 7)) (eqb (length w) 24) (sym (ap accepted_of e) ∙ t)

    pub nine_long : length x ≡ 9
    nine_long = eqb-true (length x) 9 fit.0

    pub fields_long : length f ≡ 8
    fields_long = eqb-true (length f) 8 fit.1

    pub switches_long : length w ≡ 24
    switches_long = eqb-true (length w) 24 fit.2

    -- accepted, the rest decides
    pub passed_with : (rest : Answer) → lengths_with x len f l w rest ≡ rest
    passed_with = fit.3
