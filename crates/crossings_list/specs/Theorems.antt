-- What holds of the list: which indices are in it, that they rise, how many they are, what a NaN does; and what refusal 8's place is.
use Rattle.std.specs.Prelude.{ℕ, zero, suc, ◌+◌, ◌-◌, ◌<◌, ◌≤◌, ◌≡◌, Bool, ◌&&◌, ◌⊎◌, ltb, length, get_or, Float}
use Rattle.std.proofs.Math.Path.{refl, ap}
use Rattle.std.proofs.Common.{sym, ◌∙◌, inl, inr, le_trans, le_refl, arith, ltb-true, ltb-false, length-append}
use Rattle.std.proofs.Math.Bool.{true, false, cond}
use Rattle.std.proofs.lemmas.Bool.{false≢true}
use Rattle.std.proofs.Math.Logic.{⊎_elim}
use mathlib.Core.List.Memᴰ
use mathlib.Core.List.{List, [], ◌∷◌, ◌++◌, append-nil, Memᴰ}
use Rattle.std.proofs.Math.Numerals.{add-one}
use Rattle.std.proofs.Math.ListN.{get_or-append}
use Rattle.std.proofs.lemmas.List.{get_or_at}
use Rattle.std.specs.Float.{nan, inf, fin}
use Rattle.std.specs.Float.Ieee.{lt, le, eq}
use Rattle.numbers.specs.Arithmetic.{◌‼◌}
use Rattle.numbers.specs.Tests.{lt_nan}
use Rattle.crossings_list.specs.CrossingsList.{passes_of, passes_at, below, those, crossings_of, altitudes_rise_from, altitudes_rise}

-- ---- a list made index by index

module _ (p : ℕ → Bool) where
  those_append : (l m : List ℕ) → those p (l ++ m) ≡ those p l ++ those p m
  unfolding those
  those_append [] m = refl
  those_append (i ∷ l) m = go (p i) (those_append l m)
    where
      go : (b : Bool) → those p (l ++ m) ≡ those p l ++ those p m → cond b (i ∷ those p (l ++ m)) (those p (l ++ m)) ≡ cond b (i ∷ those p l) (those p l) ++ those p m
      go true e = ap (λ (r : List ℕ). i ∷ r) e
      go false e = e

  pub those_more : (i : ℕ) → those p (below (i + 1)) ≡ those p (below i) ++ cond (p i) (i ∷ []) []
  unfolding below those
  those_more i = rw add-one (those_append (below i) (i ∷ []))

  longer : (i : ℕ) → length (those p (below i)) ≤ length (those p (below (suc i)))
  longer i = rw (← add-one i, those_more i, length-append) (omega arith)

  pub grows : (i m : ℕ) → i ≤ m → length (those p (below i)) ≤ length (those p (below m))
  grows i zero h = let e : i ≡ 0 = omega arith in rw e (le_refl _)
  grows i (suc m) h = go (ltb i (suc m)) refl (grows i m)
    where
      go : (b : Bool) → ltb i (suc m) ≡ b → (i ≤ m → length (those p (below i)) ≤ length (those p (below m))) → length (those p (below i)) ≤ length (those p (below (suc m)))
      go true e f = le_trans (f (omega (arith, ltb-true i (suc m) e))) (longer m)
      go false e f = let g : i ≡ suc m = omega (arith, ltb-false i (suc m) e) in rw g (le_refl _)

  -- ---- membership

  in_those : (i : ℕ) (l : List ℕ) → Memᴰ i (those p l) → Memᴰ i l × (p i ≡ true)
  unfolding those
  in_those i [] m = absurd (Memᴰ.not-nil m)
  in_those i (j ∷ l) m = go (p j) refl (in_those i l) m
    where
      go : (b : Bool) → p j ≡ b → (Memᴰ i (those p l) → Memᴰ i l × (p i ≡ true)) → Memᴰ i (cond b (j ∷ those p l) (those p l)) → Memᴰ i (j ∷ l) × (p i ≡ true)
      go true e f m = ⊎_elim (λ h. (Memᴰ.head h, ap p h ∙ e)) (λ r. let s = f r in (Memᴰ.tail s.0, s.1)) (Memᴰ.cases_cons m)
      go false e f m = let s = f m in (Memᴰ.tail s.0, s.1)

  those_has : (i : ℕ) (l : List ℕ) → p i ≡ true → Memᴰ i l → Memᴰ i (those p l)
  unfolding those
  those_has i [] w m = m
  those_has i (j ∷ l) w m = go (p j) refl (those_has i l w) (Memᴰ.cases_cons m)
    where
      go : (b : Bool) → p j ≡ b → (Memᴰ i l → Memᴰ i (those p l)) → (i ≡ j) ⊎ Memᴰ i l → Memᴰ i (cond b (j ∷ those p l) (those p l))
      go true e f (inl h) = Memᴰ.head h
      go true e f (inr r) = Memᴰ.tail (f r)
      go false e f (inl h) = absurd (false≢true (sym e ∙ (sym (ap p h) ∙ w)))
      go false e f (inr r) = f r

in_below : (i n : ℕ) → Memᴰ i (below n) → i < n
unfolding below
in_below i zero m = absurd (Memᴰ.not-nil m)
in_below i (suc n) m = ⊎_elim (λ l. omega (arith, in_below i n l)) (λ r. omega (arith, Memᴰ.eq_of_singleton r)) (Memᴰ.append_cases (below n) m)

below_has : (i n : ℕ) → i < n → Memᴰ i (below n)
unfolding below
below_has i zero h = absurd (none h)
  where
    none : i < 0 → ⊥
    none g = omega arith
below_has i (suc n) h = go (ltb i n) refl (below_has i n)
  where
    go : (b : Bool) → ltb i n ≡ b → (i < n → Memᴰ i (below n)) → Memᴰ i (below n ++ (n ∷ []))
    go true e f = Memᴰ.append_left (n ∷ []) (f (ltb-true i n e))
    go false e f = Memᴰ.append_right (below n) (Memᴰ.head (omega (arith, ltb-false i n e)))

-- An index is in the list exactly if it and the next one are indices of densities and their pair passes the level.
pub in_list : (level : Float) (d : List Float) (i : ℕ) → Memᴰ i (crossings_of level d) → (i + 1 < length d) × (passes_of level (d ‼ i) (d ‼ (i + 1)) ≡ true)
unfolding crossings_of
in_list level d i m =
    let s = in_those (passes_at level d) i (below (length d - 1)) m in
    (omega (arith, in_below i (length d - 1) s.0), s.1)

pub list_has : (level : Float) (d : List Float) (i : ℕ) → i + 1 < length d → passes_of level (d ‼ i) (d ‼ (i + 1)) ≡ true → Memᴰ i (crossings_of level d)
unfolding crossings_of
list_has level d i h e = those_has (passes_at level d) i (below (length d - 1)) e (below_has i (length d - 1) (omega arith))

-- ---- rising

abbrev pub Rising : List ℕ → Type 0
Rising l = (k : ℕ) → k + 1 < length l → get_or l k 0 < get_or l (k + 1) 0

abbrev Below : ℕ → List ℕ → Type 0
Below n l = (k : ℕ) → k < length l → get_or l k 0 < n

-- an index behind a list of lower ones
module _ (l : List ℕ) (n : ℕ) (r : Rising l) (b : Below n l) where
  snoc_rises : Rising (l ++ (n ∷ []))
  snoc_rises k h = go (ltb (k + 1) (length l)) refl
    where
      len : length (l ++ (n ∷ [])) ≡ length l + 1
      len = length-append l (n ∷ [])

      go : (q : Bool) → ltb (k + 1) (length l) ≡ q → get_or (l ++ (n ∷ [])) k 0 < get_or (l ++ (n ∷ [])) (k + 1) 0
      go true e =
          let g : k + 1 < length l = ltb-true (k + 1) (length l) e in
          rw (get_or-append l (n ∷ []) 0 k (omega arith), get_or-append l (n ∷ []) 0 (k + 1) g) (r k g)
      go false e =
          let g : length l ≡ k + 1 = omega (arith, ltb-false (k + 1) (length l) e, len) in
          rw (get_or-append l (n ∷ []) 0 k (omega arith), get_or_at l n [] 0 (k + 1) g) (b k (omega arith))

  snoc_below : Below (suc n) (l ++ (n ∷ []))
  snoc_below k h = go (ltb k (length l)) refl
    where
      len : length (l ++ (n ∷ [])) ≡ length l + 1
      len = length-append l (n ∷ [])

      go : (q : Bool) → ltb k (length l) ≡ q → get_or (l ++ (n ∷ [])) k 0 < suc n
      go true e =
          let g : k < length l = ltb-true k (length l) e in
          rw (get_or-append l (n ∷ []) 0 k g) (omega (arith, b k g))
      go false e =
          let g : length l ≡ k = omega (arith, ltb-false k (length l) e, len) in
          rw (get_or_at l n [] 0 k g) (le_refl (suc n))

those_rise : (p : ℕ → Bool) (n : ℕ) → Rising (those p (below n)) × Below n (those p (below n))
unfolding below those
those_rise p zero = (λ k h. absurd (none k h), λ k h. absurd (none' k h))
  where
    none : (k : ℕ) → k + 1 < 0 → ⊥
    none k h = omega arith

    none' : (k : ℕ) → k < 0 → ⊥
    none' k h = omega arith
those_rise p (suc n) = rw (those_append p (below n) (n ∷ [])) (go (p n) (those_rise p n))
  where
    go : (b : Bool) → Rising (those p (below n)) × Below n (those p (below n))
        → Rising (those p (below n) ++ cond b (n ∷ []) []) × Below (suc n) (those p (below n) ++ cond b (n ∷ []) [])
    go true s = (snoc_rises (those p (below n)) n s.0 s.1, snoc_below (those p (below n)) n s.0 s.1)
    go false s = rw (append-nil (those p (below n))) (s.0, λ k h. omega (arith, s.1 k h))

-- The list rises strictly: every index once, lowest first.
pub list_rises : (level : Float) (d : List Float) → Rising (crossings_of level d)
unfolding crossings_of
list_rises level d = (those_rise (passes_at level d) (length d - 1)).0

-- ---- how long the list is

those_short : (p : ℕ → Bool) (n : ℕ) → length (those p (below n)) ≤ n
unfolding below those
those_short p zero = omega arith
those_short p (suc n) = rw (those_append p (below n) (n ∷ []), length-append) (go (p n) (those_short p n))
  where
    go : (b : Bool) → length (those p (below n)) ≤ n → length (those p (below n)) + length (cond b (n ∷ []) []) ≤ suc n
    go true h = omega arith
    go false h = omega arith

-- The list has at most as many indices as there are pairs of neighbours; none where there is no density or one.
pub list_short : (level : Float) (d : List Float) → length (crossings_of level d) ≤ length d - 1
unfolding crossings_of
list_short level d = those_short (passes_at level d) (length d - 1)

pub no_pair : (level : Float) (d : List Float) → length d ≤ 1 → crossings_of level d ≡ []
unfolding crossings_of below those
no_pair level d h = let e : length d - 1 ≡ 0 = omega arith in rw e

-- ---- a NaN makes no pair

le_nan : (x : Float) → le x nan ≡ false
unfolding le lt eq
le_nan nan = refl
le_nan (inf s) = refl
le_nan (fin s m e) = refl

nan_le : (x : Float) → le nan x ≡ false
unfolding le lt eq
nan_le x = refl

pub pair_level_nan : (a b : Float) → passes_of nan a b ≡ false
unfolding passes_of
pair_level_nan a b = simp (nan_le, lt_nan)

pub lower_nan : (level b : Float) → passes_of level nan b ≡ false
unfolding passes_of lt
lower_nan level b = simp le_nan

and-false : (b : Bool) → (b && false) ≡ false
and-false true = refl
and-false false = refl

pub upper_nan : (level a : Float) → passes_of level a nan ≡ false
unfolding passes_of lt
upper_nan level a = simp (le_nan, and-false)

-- ---- the place of 8

-- what holds at the place, with i altitudes passed, the last of them a
altitudes_rise_from_lem : (i : ℕ) (a : Float) (s : List Float) → (i ≤ altitudes_rise_from i a s) × (altitudes_rise_from i a s ≤ i + length s)
    × ((k : ℕ) → i + k < altitudes_rise_from i a s → lt ((a ∷ s) ‼ k) (s ‼ k) ≡ true)
    × ((k : ℕ) → altitudes_rise_from i a s ≡ i + k → k < length s → lt ((a ∷ s) ‼ k) (s ‼ k) ≡ false)
unfolding altitudes_rise_from
altitudes_rise_from_lem i a [] = (omega arith, omega arith, λ k h. absurd (none k h), λ k e h. absurd (none' k h))
  where
    none : (k : ℕ) → i + k < i → ⊥
    none k h = omega arith

    none' : (k : ℕ) → k < 0 → ⊥
    none' k h = omega arith
altitudes_rise_from_lem i a (b ∷ s) = go (lt a b) refl (altitudes_rise_from_lem (i + 1) b s)
  where
    go : (p : Bool) → lt a b ≡ p
        → (i + 1 ≤ altitudes_rise_from (i + 1) b s) × (altitudes_rise_from (i + 1) b s ≤ i + 1 + length s)
        × ((k : ℕ) → i + 1 + k < altitudes_rise_from (i + 1) b s → lt ((b ∷ s) ‼ k) (s ‼ k) ≡ true)
        × ((k : ℕ) → altitudes_rise_from (i + 1) b s ≡ i + 1 + k → k < length s → lt ((b ∷ s) ‼ k) (s ‼ k) ≡ false)
        → (i ≤ cond p (altitudes_rise_from (i + 1) b s) i) × (cond p (altitudes_rise_from (i + 1) b s) i ≤ i + suc (length s))
        × ((k : ℕ) → i + k < cond p (altitudes_rise_from (i + 1) b s) i → lt ((a ∷ b ∷ s) ‼ k) ((b ∷ s) ‼ k) ≡ true)
        × ((k : ℕ) → cond p (altitudes_rise_from (i + 1) b s) i ≡ i + k → k < suc (length s) → lt ((a ∷ b ∷ s) ‼ k) ((b ∷ s) ‼ k) ≡ false)
    go true e r = (omega (arith, r.0), omega (arith, r.1), up, down)
      where
        up : (k : ℕ) → i + k < altitudes_rise_from (i + 1) b s → lt ((a ∷ b ∷ s) ‼ k) ((b ∷ s) ‼ k) ≡ true
        up zero h = e
        up (suc k) h = r.2 k (omega arith)

        down : (k : ℕ) → altitudes_rise_from (i + 1) b s ≡ i + k → k < suc (length s) → lt ((a ∷ b ∷ s) ‼ k) ((b ∷ s) ‼ k) ≡ false
        down zero f h = absurd (no r.0 f)
          where
            no : i + 1 ≤ altitudes_rise_from (i + 1) b s → altitudes_rise_from (i + 1) b s ≡ i + 0 → ⊥
            no g f' = omega arith
        down (suc k) f h = r.3 k (omega arith) (omega arith)
    go false e r = (omega arith, omega arith, up, down)
      where
        up : (k : ℕ) → i + k < i → lt ((a ∷ b ∷ s) ‼ k) ((b ∷ s) ‼ k) ≡ true
        up k h = absurd (no h)
          where
            no : i + k < i → ⊥
            no g = omega arith

        down : (k : ℕ) → i ≡ i + k → k < suc (length s) → lt ((a ∷ b ∷ s) ‼ k) ((b ∷ s) ‼ k) ≡ false
        down zero f h = e
        down (suc k) f h = absurd (no f)
          where
            no : i ≡ i + suc k → ⊥
            no g = omega arith

-- 8's place: it is a later altitude's or the number of altitudes; those before it rise strictly; where it is an altitude's, that one is not
-- above the one before it.
pub altitudes_first_fall : (s : List Float) → (altitudes_rise s ≤ length s)
    × (0 < length s → 0 < altitudes_rise s)
    × ((k : ℕ) → suc k < altitudes_rise s → lt (s ‼ k) (s ‼ suc k) ≡ true)
    × ((k : ℕ) → altitudes_rise s ≡ suc k → suc k < length s → lt (s ‼ k) (s ‼ suc k) ≡ false)
altitudes_first_fall [] = (omega arith, λ h. h, λ k h. absurd (none k h), λ k e h. absurd (none k h))
  where
    none : (k : ℕ) → suc k < 0 → ⊥
    none k h = omega arith
altitudes_first_fall (a ∷ s) =
    let r = altitudes_rise_from_lem 1 a s in
    (omega (arith, r.1), λ h. r.0, λ k h. r.2 k (omega arith), λ k e h. r.3 k (omega arith) (omega arith))
