-- The lowest of the tests that pass, by the position of the first value that passes one test.
use Rattle.std.specs.Prelude.{ℕ, suc, ◌+◌, ◌<◌, ◌≤◌, ◌&&◌, ◌≡◌, refl, Bool, true, false, cond, not, List, [], ◌∷◌, map, length, nat_lt, ltb, Option, Some, None, position, Float}
use Rattle.std.specs.List.{position_or_len}
use Rattle.std.proofs.Common.{ap, arith, sym, ◌∙◌, subst}
use Rattle.std.proofs.lemmas.Bool.{false≢true, lt-ltb, ltb-true}
use Rattle.std.proofs.lemmas.Option.{cond_some, none-some}
use native.Mathlib.Numerals.{add-one}
use Rattle.std.proofs.lemmas.Bool.Decides.{nat_tests}
use Rattle.std.proofs.lemmas.List.FromFn.{fill_by_all}
use lib.Ieee.{nan}
use Rattle.numbers.specs.Arithmetic.{◌‼◌}
use Rattle.acceptance.specs.Acceptance.{lowest, found_of, field_at}

same_ltb : (m l : ℕ) → ltb (1 + m) (suc l) ≡ ltb m l
same_ltb m l = grind (arith, nat_tests)

more : (b : Bool) (k m l rest : ℕ) (x : ℕ) → x ≡ cond (nat_lt m l) (suc k + m) rest → cond b k x ≡ cond (nat_lt (cond (not b) (1 + m) 0) (suc l)) (k + cond (not b) (1 + m) 0) rest
more true k m l rest x e = rw (lt-ltb 0 (suc l) (omega arith)) (omega arith)
more false k m l rest x e = e ∙ rw (same_ltb m l) (ap (λ i. cond (ltb m l) i rest) (omega arith))

lowest_at : {A : Type 0} (p : A → Bool) (k : ℕ) (xs : List A) (rest : ℕ) → lowest k (map p xs) rest ≡ cond (nat_lt (position_or_len p xs) (length xs)) (k + position_or_len p xs) rest
lowest_at p k [] rest = refl
lowest_at p k (x ∷ xs) rest = more (p x) k (position_or_len p xs) (length xs) rest _ (lowest_at p (suc k) xs rest)

none_fits : (c : Bool) (m i rest : ℕ) → cond c (Some i) None ≡ None → cond c m rest ≡ rest
none_fits true m i rest e = absurd (none-some i (sym e))
none_fits false m i rest e = refl

pub lowest_some : {A : Type 0} (p : A → Bool) (k : ℕ) (xs : List A) (rest i : ℕ) → position p xs ≡ Some i → (lowest k (map p xs) rest ≡ k + i) × (i < length xs)
lowest_some p k xs rest i e =
    let at = cond_some (nat_lt (position_or_len p xs) (length xs)) (position_or_len p xs) i e in
    (lowest_at p k xs rest ∙ rw at.0 (ap (λ m. k + m) at.1), subst (λ m. m < length xs) at.1 (ltb-true _ _ at.0))

pub lowest_none : {A : Type 0} (p : A → Bool) (k : ℕ) (xs : List A) (rest : ℕ) → position p xs ≡ None → lowest k (map p xs) rest ≡ rest
lowest_none p k xs rest e = lowest_at p k xs rest ∙ none_fits (nat_lt (position_or_len p xs) (length xs)) _ _ rest e

pub field_some : (k : ℕ) → k < 17 → Some k ≡ field_at k
unfolding found_of
field_some k h = grind (arith, nat_tests)

-- the place of the first value that passes, of those from the field k on, the last of them a field
pub passes_first : {A : Type 0} (p : A → Bool) (k : ℕ) (xs : List A) (rest i : ℕ) → k + length xs ≤ 17 → position p xs ≡ Some i → Some (k + i) ≡ field_at (lowest k (map p xs) rest)
passes_first p k xs rest i fits e =
    let at = lowest_some p k xs rest i e in
    let in_range : k + i < 17 = omega (arith, fits, at.1) in field_some (k + i) in_range ∙ ap field_at (sym at.0)

-- the seven values of a history, in their places
pub seven : (a : List Float) → length a ≡ 7 → (p : Float → Bool) → map p a ≡ p (a ‼ 0) ∷ p (a ‼ 1) ∷ p (a ‼ 2) ∷ p (a ‼ 3) ∷ p (a ‼ 4) ∷ p (a ‼ 5) ∷ p (a ‼ 6) ∷ []
seven a h p = ap (map p) (fill_by_all (λ i. a ‼ i) a 7 nan h (λ k less. refl))

-- the tests of a history's values, where it is absent or not
unfoldable pub history_place : (Float → Bool) → Bool → List Float → ℕ
history_place p absent a =
    lowest 10
    ((not absent && p (a ‼ 0)) ∷ (not absent && p (a ‼ 1)) ∷ (not absent && p (a ‼ 2)) ∷ (not absent && p (a ‼ 3)) ∷
    (not absent && p (a ‼ 4)) ∷ (not absent && p (a ‼ 5)) ∷ (not absent && p (a ‼ 6)) ∷ []) 17

absent_place : (p : Float → Bool) (absent : Bool) (a : List Float) → absent ≡ true → history_place p absent a ≡ 17
unfolding history_place
absent_place p absent a t = rw t refl

there_place : (p : Float → Bool) (absent : Bool) (a : List Float) → absent ≡ false → length a ≡ 7 → history_place p absent a ≡ lowest 10 (map p a) 17
unfolding history_place
there_place p absent a f h = rw f (ap (λ ts. lowest 10 ts 17) (sym (seven a h p)))

module _ {A : Type 0} (q : A → Bool) (k : ℕ) (xs : List A) (fits : k + length xs ≤ 17) (p : Float → Bool) (absent : Bool) (a : List Float) where
  -- the lowest of the fields xs from the field k on, and of the history behind them
  abbrev pub place : ℕ
  place = lowest k (map q xs) (history_place p absent a)

  pub first_here : (i : ℕ) → position q xs ≡ Some i → Some (k + i) ≡ field_at place
  first_here i e = passes_first q k xs (history_place p absent a) i fits e

  pub none_absent : position q xs ≡ None → absent ≡ true → None ≡ field_at place
  unfolding found_of
  none_absent e t = ap field_at (sym (lowest_none q k xs _ e ∙ absent_place p absent a t))

  pub first_there : (i : ℕ) → position q xs ≡ None → absent ≡ false → length a ≡ 7 → position p a ≡ Some i → Some (10 + i) ≡ field_at place
  first_there i e f h g = passes_first p 10 a 17 i (omega (arith, h)) g ∙ ap field_at (sym (lowest_none q k xs _ e ∙ there_place p absent a f h))

  pub none_there : position q xs ≡ None → absent ≡ false → length a ≡ 7 → position p a ≡ None → None ≡ field_at place
  unfolding found_of
  none_there e f h g = ap field_at (sym (lowest_none q k xs _ e ∙ there_place p absent a f h ∙ lowest_none p 10 a 17 g))
