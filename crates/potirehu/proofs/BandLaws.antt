-- The outcomes of a density in bands on the host, by the tests on its slices.
use Prim.Native.Nat.{ℕ}
use mathlib.Core.Path.{◌≡◌, refl, sym, ◌∙◌, ap}
use mathlib.Core.Bool.{Bool, true, false, cond, not, ◌&&◌, true≢false, false≢true}
use mathlib.Core.List.{List}
use borrow.Author.Tests.{eqb-true}
use lib.Dec.{eqb}
use lib.IntN.{ℤ}
use lib.ListN.{length}
use lib.Ieee.{Float}
use Rattle.refusals.specs.Refusals.{Accepted, Answer, Refused, accepted_of}
use Rattle.refusals.specs.declared.Reason.TheVariants.{WrongLength}
use Rattle.setting.specs.declared.Input.{Input}
use Rattle.bands.specs.Bands.{banded_answer, banded_after}
use Rattle.host_record.specs.Record.{code_of, record_of}
use Rattle.potirehu.specs.Bands.{band_lengths_of, host_banded, host_banded_row}
use Rattle.potirehu.proofs.Laws.{twice}

abbrev tests : Bool → Bool → Bool → Bool → Answer → Answer
tests a b c d rest = cond (not a) (Refused WrongLength 11) (cond (not b) (Refused WrongLength 1601) (cond (not c) (Refused WrongLength 8) (cond d (Refused WrongLength 7) rest)))

halted : (a b c d : Bool) (rest : Answer) → accepted_of (tests a b c d Accepted) ≡ false → tests a b c d rest ≡ tests a b c d Accepted
halted false b c d rest h = refl
halted true false c d rest h = refl
halted true true false d rest h = refl
halted true true true true rest h = refl
halted true true true false rest h = absurd (true≢false h)

all_passed : (a b c d : Bool) → accepted_of (tests a b c d Accepted) ≡ true → (c ≡ true) × ((rest : Answer) → tests a b c d rest ≡ rest)
all_passed false b c d h = absurd (false≢true h)
all_passed true false c d h = absurd (false≢true h)
all_passed true true false d h = absurd (false≢true h)
all_passed true true true true h = absurd (false≢true h)
all_passed true true true false h = (refl, λ rest. refl)

module _ (t : List ℤ) (metre year doy : ℤ) (f l xs : List Float) (a : Answer) (e : a ≡ band_lengths_of (length xs) t f l Accepted) where
  abbrev pub Outcome : ℕ → List Float → Type 0
  Outcome x ys = (x ≡ code_of (host_banded t metre year doy f l (length xs))) × (ys ≡ host_banded_row t metre year doy f l xs)

  -- a slice has not its length
  pub short : accepted_of a ≡ false → (x : ℕ) → x ≡ code_of a → Outcome x xs
  unfolding host_banded host_banded_row band_lengths_of
  short h x c =
      let k = halted (eqb (length xs) 11) (eqb (length t) 1601) (eqb (length f) 8) (not (eqb (length l) 0) && not (eqb (length l) 7))
      (banded_answer t metre (record_of year doy f l) (length xs)) (sym (ap accepted_of e) ∙ h) ∙ sym e in
      (c ∙ ap code_of (sym k), sym (ap (λ (r : Answer). cond (accepted_of r) (banded_after t metre (record_of year doy f l) xs) xs) k ∙ ap (λ (b : Bool). cond b (banded_after t metre (record_of year doy f l) xs) xs) h))

  module _ (h : accepted_of a ≡ true) where
    fit : (eqb (length f) 8 ≡ true) × ((rest : Answer) → band_lengths_of (length xs) t f l rest ≡ rest)
    unfolding band_lengths_of
    fit = all_passed (eqb (length xs) 11) (eqb (length t) 1601) (eqb (length f) 8) (not (eqb (length l) 0) && not (eqb (length l) 7)) (sym (ap accepted_of e) ∙ h)

    pub fields_long : length f ≡ 8
    fields_long = eqb-true (length f) 8 fit.0

    -- the call behind it
    pub called : (x : ℕ) (r : Answer) (n : Input) (m : ℤ) (ys : List Float)
        → x ≡ code_of r
        → r ≡ banded_answer t m n (length xs)
        → ys ≡ banded_after t m n xs
        → n ≡ record_of year doy f l
        → m ≡ metre
        → Outcome x ys
    unfolding host_banded host_banded_row banded_after
    called x r n m ys e0 e1 e2 e3 e4 =
        let k = fit.1 (banded_answer t metre (record_of year doy f l) (length xs)) in
        (simp (e0, e1, e3, e4, k), simp (e2, e3, e4, k) (twice (accepted_of (banded_answer t metre (record_of year doy f l) (length xs))) _ xs))
