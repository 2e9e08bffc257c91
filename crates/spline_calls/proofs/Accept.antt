-- What a call that refuses gives, and one that does not.
use mathlib.Core.Path.{◌≡◌, refl, sym, ap, ◌∙◌}
use mathlib.Core.Bool.{Bool, true, false, cond, ◌||◌, true≢false}
use mathlib.Core.List.{List}
use Prim.Native.Nat.{ℕ, ◌≤◌}
use lib.Dec.{ltb}
use lib.ListN.{length}
use lib.Ieee.{Float}
use borrow.Author.Tests.{ltb-false}
use Rattle.spline_calls.specs.Outcome.{Outcome, gives, refused, counted, after}
use Rattle.std.proofs.Common.{Result, Ok, Err}
use Rattle.spline_calls.specs.declared.NodesRefusal.{NodesRefusal}
use Rattle.spline_calls.specs.declared.NodesRefusal.TheVariants.{NodeCount, SliceLength}
use Rattle.spline_calls.specs.Calls.{outcome_of, write_outcome, three_long}

-- neither test holds where `a || b` does not
pub neither : (a b : Bool) → (a || b) ≡ false → (a ≡ false) × (b ≡ false)
neither true b h = (h, absurd (true≢false h))
neither false b h = (refl, h)

-- a count that is not refused
pub counted_in : (n top : ℕ) → (ltb n 2 || ltb top n) ≡ false → (2 ≤ n) × (n ≤ top)
counted_in n top h =
    let e = neither (ltb n 2) (ltb top n) h in
    (ltb-false n 2 e.0, ltb-false top n e.1)

-- three slices that are not refused
pub long_enough : (n a b c : ℕ) → (ltb a n || ltb b n || ltb c n) ≡ false → (n ≤ a) × (n ≤ b) × (n ≤ c)
long_enough n a b c h =
    let e = neither (ltb a n || ltb b n) (ltb c n) h in
    let f = neither (ltb a n) (ltb b n) e.0 in
    (ltb-false a n f.0, ltb-false b n f.1, ltb-false c n e.1)

-- after a refusal the slice is as it was; else the test that would refuse fails
pub past : (t : Bool) (number place : ℕ) (o : Outcome (List Float)) (xs : List Float) (P : List Float → Type 0)
    → P xs → (t ≡ false → P (after o xs)) → P (after (cond t (refused number place) o) xs)
unfolding after
past true number place o xs P p q = p
past false number place o xs P p q = q refl

-- what follows a check: its refusal, or else the rest
unfoldable pub carried : {A : Type 0} → Outcome (Unit {0}) → Outcome A → Outcome A
carried (gives u) o = o
carried (refused number place) o = refused number place

pub carried_err : {A : Type 0} (e : NodesRefusal) (o : Outcome A) → outcome_of {A = A} (Err e) ≡ carried (outcome_of (Err e)) o
unfolding carried
carried_err (NodeCount place) o = refl
carried_err (SliceLength place) o = refl

module _ {A : Type 0} (o : Outcome A) where
  counted_carried : (n top : ℕ) → carried (counted n top (gives tt)) o ≡ counted n top o
  unfolding carried counted
  counted_carried n top = by (ltb n 2 || ltb top n)
    where
      by : (t : Bool) → carried (cond t (refused 5 top) (gives tt)) o ≡ cond t (refused 5 top) o
      by true = refl
      by false = refl

  three_carried : (n : ℕ) (a b c : List Float) → carried (three_long n a b c (gives tt)) o ≡ three_long n a b c o
  unfolding carried three_long counted
  three_carried n a b c = by (ltb n 2 || ltb 10 n) (ltb (length a) n || ltb (length b) n || ltb (length c) n)
    where
      by : (s t : Bool) → carried (cond s (refused 5 10) (cond t (refused 4 n) (gives tt))) o ≡ cond s (refused 5 10) (cond t (refused 4 n) o)
      by true t = refl
      by false true = refl
      by false false = refl

  -- a check that refuses, and one that does not
  pub stops_at : (n : ℕ) (a b c : List Float) (e : NodesRefusal) (r : Result A NodesRefusal) → r ≡ Err e → outcome_of {A = Unit {0}} (Err e) ≡ three_long n a b c (gives tt) → outcome_of r ≡ three_long n a b c o
  stops_at n a b c e r i h = ap (λ (q : Result A NodesRefusal). outcome_of q) i ∙ carried_err e o ∙ ap (λ (w : Outcome (Unit {0})). carried w o) h ∙ three_carried n a b c

  -- the count alone
  pub count_stops : (n top : ℕ) (e : NodesRefusal) (r : Result A NodesRefusal) → r ≡ Err e → outcome_of {A = Unit {0}} (Err e) ≡ counted n top (gives tt) → outcome_of r ≡ counted n top o
  count_stops n top e r i h = ap (λ (q : Result A NodesRefusal). outcome_of q) i ∙ carried_err e o ∙ ap (λ (w : Outcome (Unit {0})). carried w o) h ∙ counted_carried n top

  pub count_goes_on : (n top : ℕ) (u : Unit {0}) → outcome_of {A = Unit {0}} (Ok u) ≡ counted n top (gives tt) → o ≡ counted n top o
  unfolding carried
  count_goes_on n top u h = ap (λ (w : Outcome (Unit {0})). carried w o) h ∙ counted_carried n top

  pub goes_on : (n : ℕ) (a b c : List Float) (u : Unit {0}) → outcome_of {A = Unit {0}} (Ok u) ≡ three_long n a b c (gives tt) → o ≡ three_long n a b c o
  unfolding carried
  goes_on n a b c u h = ap (λ (w : Outcome (Unit {0})). carried w o) h ∙ three_carried n a b c

-- a lent slice after a refusal, and after an answer
pub left_alone : (o : Outcome (List Float)) (xs : List Float) (e : NodesRefusal) → outcome_of {A = List Float} (Err e) ≡ o → xs ≡ after o xs
unfolding after
left_alone o xs (NodeCount place) h = rw (sym h) refl
left_alone o xs (SliceLength place) h = rw (sym h) refl

pub left_with_lem : (o : Outcome (List Float)) (ys xs w : List Float) → gives ys ≡ o → w ≡ ys → w ≡ after o xs
unfolding after
left_with_lem o ys xs w e f = rw (sym e) f

-- the same of a call that writes, and the lent slice after it
pub write_stops : (o : Outcome (List Float)) (n : ℕ) (a b c xs : List Float) (e : NodesRefusal) (r : Result (Unit {0}) NodesRefusal) → r ≡ Err e
    → outcome_of {A = Unit {0}} (Err e) ≡ three_long n a b c (gives tt)
    → (write_outcome r xs ≡ three_long n a b c o) × (xs ≡ after (three_long n a b c o) xs)
write_stops o n a b c xs e r i h =
    let k = stops_at o n a b c e (Err e) refl h in
    (ap (λ (q : Result (Unit {0}) NodesRefusal). write_outcome q xs) i ∙ k, left_alone _ xs e k)
