-- What the slices of a record meet, and a refused call's outcome: laws for every call that takes a record from outside.
use Prim.Native.Nat.{ℕ}
use mathlib.Core.Path.{◌≡◌, refl, sym, ◌∙◌, ap, ap₂}
use mathlib.Core.Bool.{Bool, true, false, cond, not, ◌&&◌, true≢false, false≢true}
use mathlib.Core.List.{List}
use borrow.Author.Tests.{eqb-true}
use lib.Dec.{eqb}
use lib.IntN.{ℤ}
use lib.ListN.{length}
use lib.Ieee.{Float}
use Rattle.refusals.specs.Refusals.{Accepted, Answer, Refused, accepted_of}
use Rattle.refusals.specs.declared.Reason.TheVariants.{WrongLength}
use Rattle.setting.specs.declared.Input.{Input}
use Rattle.host_record.specs.Record.{code_of, record_of, lengths_of}

-- a refusal: its number and place, the lent memory as it was
pub refused : (d r : Answer) (ys xs : List Float) (x : ℕ) → d ≡ r → accepted_of r ≡ false → x ≡ code_of r
    → (x ≡ code_of d) × (xs ≡ cond (accepted_of d) ys xs)
refused d r ys xs x e t c = (c ∙ sym (ap code_of e), sym (ap (λ (b : Bool). cond b ys xs) (ap accepted_of e ∙ t)))

-- ---- the record's three slices, by their tests

abbrev tests : Bool → Bool → Bool → Answer → Answer
tests a b c rest = cond (not a) (Refused WrongLength 8) (cond b (Refused WrongLength 7) (cond (not c) (Refused WrongLength 24) rest))

halted : (a b c : Bool) (rest : Answer) → accepted_of (tests a b c Accepted) ≡ false → tests a b c rest ≡ tests a b c Accepted
halted false b c rest h = refl
halted true true c rest h = refl
halted true false false rest h = refl
halted true false true rest h = absurd (true≢false h)

all_passed : (a b c : Bool) → accepted_of (tests a b c Accepted) ≡ true → (a ≡ true) × (c ≡ true) × ((rest : Answer) → tests a b c rest ≡ rest)
all_passed false b c h = absurd (false≢true h)
all_passed true true c h = absurd (false≢true h)
all_passed true false false h = absurd (false≢true h)
all_passed true false true h = (refl, refl, λ rest. refl)

-- what the slices' own answer says of a call's
module _ (f l : List Float) (w : List ℤ) (a : Answer) (e : a ≡ lengths_of f l w Accepted) where
  pub stopped : accepted_of a ≡ false → (rest : Answer) → lengths_of f l w rest ≡ a
  unfolding lengths_of
  stopped t rest = halted (eqb (length f) 8) (not (eqb (length l) 0) && not (eqb (length l) 7)) (eqb (length w) 24) rest (sym (ap accepted_of e) ∙ t) ∙ sym e

  module _ (t : accepted_of a ≡ true) where
    fit : (eqb (length f) 8 ≡ true) × (eqb (length w) 24 ≡ true) × ((rest : Answer) → lengths_of f l w rest ≡ rest)
    unfolding lengths_of
    fit = all_passed (eqb (length f) 8) (not (eqb (length l) 0) && not (eqb (length l) 7)) (eqb (length w) 24) (sym (ap accepted_of e) ∙ t)

    pub fields_fit : length f ≡ 8
    fields_fit = eqb-true (length f) 8 fit.0

    pub switches_fit : length w ≡ 24
    switches_fit = eqb-true (length w) 24 fit.1

    pub passed : (rest : Answer) → lengths_of f l w rest ≡ rest
    passed = fit.2

-- a record whose year and day came as other terms for the same numbers
pub dated : (f l : List Float) (n : Input) (y d year doy : ℤ) → n ≡ record_of y d f l → y ≡ year → d ≡ doy → n ≡ record_of year doy f l
dated f l n y d year doy e0 e1 e2 = e0 ∙ ap₂ (λ (a b : ℤ). record_of a b f l) e1 e2
