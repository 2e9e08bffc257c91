-- The outcomes of the host's descent, by the tests on its slices.
use Rattle.std.specs.Prelude.{Err, Ok, Result}
use Prim.Native.Nat.{ℕ}
use mathlib.Core.Path.{◌≡◌, refl, sym, ap, ◌∙◌}
use mathlib.Core.Bool.{true, false, true≢false, false≢true}
use mathlib.Core.List.{List}
use lib.IntN.{ℤ}
use lib.ListN.{length}
use lib.Ieee.{Float}
use Rattle.refusals.specs.declared.Refusal.{Refusal}
use Rattle.refusals.specs.Refusals.{Answer, accepted_of, refused_or}
use Rattle.setting.specs.declared.Input.{Input}
use Rattle.descent_orbits.specs.declared.Descended.{Descended}
use Rattle.descent.specs.Descent.{descent_answer, descent_losses}
use Rattle.host_record.specs.Record.{code_of, record_of}
use Rattle.potirehu.specs.Potirehu.{slices_of}
use Rattle.potirehu.specs.Descents.{descended_code, end_after, host_descent, host_losses, host_end}

-- the slices' own answer goes first
stays : (a : Answer) (x : Result Descended Refusal) (ys : List ℤ) → accepted_of a ≡ false → (code_of a ≡ descended_code (refused_or a x)) × (ys ≡ end_after (refused_or a x) ys)
unfolding code_of
stays (Ok v) x ys t = absurd (true≢false t)
stays (Err r) x ys t = (refl, refl)

goes_on : (a : Answer) (x : Result Descended Refusal) → accepted_of a ≡ true → refused_or a x ≡ x
goes_on (Ok v) x t = refl
goes_on (Err r) x t = absurd (false≢true t)

module _ (year doy : ℤ) (f l : List Float) (w : List ℤ) (start : ℤ) (ss xs ys : List ℤ) (a : Answer) (e : a ≡ slices_of 3 f l w (length ys)) where
  abbrev Outcome : ℕ → List ℤ → List ℤ → Type 0
  Outcome x xs' ys' =
      (x ≡ descended_code (host_descent year doy f l w start ss (length xs) (length ys)))
      × (xs' ≡ host_losses year doy f l w start ss xs (length ys)) × (ys' ≡ host_end year doy f l w start ss (length xs) ys)

  pub not_flown : (x : ℕ) → accepted_of a ≡ false → x ≡ code_of a → Outcome x xs ys
  unfolding host_descent host_losses host_end
  not_flown x t c =
      let s = stays a (descent_answer w (record_of year doy f l) start ss (length xs)) ys t in
      (c ∙ rw (← e) s.0, rw (← e, t), rw (← e) s.1)

  -- n, v and z are the record, the switch row and the start as they were handed on
  pub flown : (x : ℕ) (r : Result Descended Refusal) (n : Input) (v : List ℤ) (z : ℤ) (xs' ys' : List ℤ)
      → accepted_of a ≡ true
      → x ≡ descended_code r
      → ys' ≡ end_after r ys
      → r ≡ descent_answer v n z ss (length xs)
      → xs' ≡ descent_losses v n z ss xs
      → n ≡ record_of year doy f l
      → v ≡ w
      → z ≡ start
      → Outcome x xs' ys'
  unfolding host_descent host_losses host_end
  flown x r n v z xs' ys' t e0 e1 e2 e3 e4 e5 e6 =
      let told : r ≡ refused_or (slices_of 3 f l w (length ys)) (descent_answer w (record_of year doy f l) start ss (length xs)) =
      e2 ∙ rw (e4, e5, e6, ← e) (sym (goes_on a _ t)) in
      (e0 ∙ ap (λ (q : Result Descended Refusal). descended_code q) told, e3 ∙ rw (e4, e5, e6, ← e, t), e1 ∙ ap (λ (q : Result Descended Refusal). end_after q ys) told)
