-- Which row the first one below a level is, when there is none, and what a NaN does.
use Prim.Native.Nat.{ℕ, zero, suc, ◌+◌, ◌<◌, ◌≤◌}
use Rattle.std.proofs.Math.Path.{◌≡◌, refl}
use Rattle.std.proofs.Common.{ap, true≢false}
use Rattle.std.specs.Prelude.{Bool, List, Float, Err, None, Ok, Some}
use Rattle.std.proofs.Math.Bool.{true, false, cond}
use Rattle.std.proofs.lemmas.Bool.{false≢true}
use native.Mathlib.Omega.{arith}
use borrow.Author.Tests.{ltb-true, ltb-false}
use Rattle.std.proofs.Math.Dec.{ltb}
use Rattle.std.specs.Float.{nan}
use Rattle.std.specs.Float.Ieee.{lt}
use Rattle.numbers.specs.Arithmetic.{◌‼◌}
use Rattle.numbers.specs.Tests.{lt_nan}
use Rattle.refusals.specs.declared.Reason.{Reason}
use Rattle.refusals.specs.Refusals.{Refused, accepted_of}
use Rattle.first_below_list.specs.FirstBelowList.{is_below, row_in, first_from, first_below, At, First, Nowhere}

-- what an answer is
abbrev pub is_at : First → Bool
is_at (Ok (Some k)) = true
is_at (Ok None) = false
is_at (Err r) = false

abbrev pub index_in : First → ℕ
index_in (Ok (Some k)) = k
index_in (Ok None) = 0
index_in (Err r) = 0

module _ (level : Float) (rows : List Float) where
  -- no row of those with the indices from k up to i is below the level
  abbrev pub NoneBelow : ℕ → ℕ → Type 0
  NoneBelow k i = (j : ℕ) → k ≤ j → j < i → is_below level (row_in rows j) ≡ false

  -- one row more at the front
  none_more : (k i : ℕ) → is_below level (row_in rows k) ≡ false → NoneBelow (k + 1) i → NoneBelow k i
  none_more k i t h j g l = go (ltb k j) refl
    where
      go : (b : Bool) → ltb k j ≡ b → is_below level (row_in rows j) ≡ false
      go true e = h j (omega (arith, ltb-true k j e)) l
      go false e = let s : j ≡ k = omega (arith, ltb-false k j e) in rw s t

  -- ---- an index is the first

  from_told : (m k i : ℕ) → first_from level rows m k ≡ At i → (k ≤ i) × (i < k + m) × (is_below level (row_in rows i) ≡ true) × NoneBelow k i
  unfolding first_from
  from_told zero k i e = absurd (false≢true (ap (λ (r : First). is_at r) e))
  from_told (suc m) k i e = go (is_below level (row_in rows k)) refl e (from_told m (k + 1) i)
    where
      none : (j : ℕ) → k ≤ j → j < k → ⊥
      none j g l = omega arith

      go : (b : Bool) → is_below level (row_in rows k) ≡ b → cond b (At k) (first_from level rows m (k + 1)) ≡ At i
          → (first_from level rows m (k + 1) ≡ At i → (k + 1 ≤ i) × (i < k + 1 + m) × (is_below level (row_in rows i) ≡ true) × NoneBelow (k + 1) i)
          → (k ≤ i) × (i < k + suc m) × (is_below level (row_in rows i) ≡ true) × NoneBelow k i
      go true t f r =
          let s : k ≡ i = ap (λ (a : First). index_in a) f in
          rw (← s) (omega arith, omega arith, t, λ j g l. absurd (none j g l))
      go false t f r = let s = r f in (omega (arith, s.0), omega (arith, s.1), s.2, none_more k i t s.3)

  from_there : (m k i : ℕ) → k ≤ i → i < k + m → is_below level (row_in rows i) ≡ true → NoneBelow k i → first_from level rows m k ≡ At i
  unfolding first_from
  from_there zero k i g l t h = absurd (none g l)
    where
      none : k ≤ i → i < k + 0 → ⊥
      none g' l' = omega arith
  from_there (suc m) k i g l t h = go (ltb k i) refl (from_there m (k + 1) i)
    where
      go : (b : Bool) → ltb k i ≡ b → (k + 1 ≤ i → i < k + 1 + m → is_below level (row_in rows i) ≡ true → NoneBelow (k + 1) i → first_from level rows m (k + 1) ≡ At i)
          → cond (is_below level (row_in rows k)) (At k) (first_from level rows m (k + 1)) ≡ At i
      go true e r =
          let s : k < i = ltb-true k i e in
          rw (h k (omega arith) s) (r (omega arith) (omega arith) t (λ j u v. h j (omega arith) v))
      go false e r = let s : k ≡ i = omega (arith, ltb-false k i e) in rw (s, t)

  -- ---- none is below

  from_none : (m k : ℕ) → first_from level rows m k ≡ Nowhere → NoneBelow k (k + m)
  unfolding first_from
  from_none zero k e = λ j g l. absurd (none j g l)
    where
      none : (j : ℕ) → k ≤ j → j < k + 0 → ⊥
      none j g l = omega arith
  from_none (suc m) k e = go (is_below level (row_in rows k)) refl e (from_none m (k + 1))
    where
      go : (b : Bool) → is_below level (row_in rows k) ≡ b → cond b (At k) (first_from level rows m (k + 1)) ≡ Nowhere
          → (first_from level rows m (k + 1) ≡ Nowhere → NoneBelow (k + 1) (k + 1 + m)) → NoneBelow k (k + suc m)
      go true t f r = absurd (true≢false (ap (λ (a : First). is_at a) f))
      go false t f r = none_more k (k + suc m) t (λ j g l. r f j g (omega arith))

  none_from : (m k : ℕ) → NoneBelow k (k + m) → first_from level rows m k ≡ Nowhere
  unfolding first_from
  none_from zero k h = refl
  none_from (suc m) k h = rw (h k (omega arith) (omega arith)) (none_from m (k + 1) (λ j g l. h j (omega arith) (omega arith)))

  -- ---- looking refuses nothing

  pub never_refused : (m k : ℕ) (i : Reason) (j : ℕ) → first_from level rows m k ≡ Refused i j → ⊥
  unfolding first_from
  never_refused zero k i j e = true≢false (ap accepted_of e)
  never_refused (suc m) k i j e = go (is_below level (row_in rows k)) e (never_refused m (k + 1) i j)
    where
      go : (b : Bool) → cond b (At k) (first_from level rows m (k + 1)) ≡ Refused i j → (first_from level rows m (k + 1) ≡ Refused i j → ⊥) → ⊥
      go true f r = true≢false (ap accepted_of f)
      go false f r = r f

  module _ (n : ℕ) where
    -- An index is answered exactly if it is the lowest of the n whose row's d[5] is below the level.
    pub first_told : (k : ℕ) → first_below level rows n ≡ At k
        → (k < n) × (is_below level (row_in rows k) ≡ true) × ((j : ℕ) → j < k → is_below level (row_in rows j) ≡ false)
    first_told k e = let s = from_told n 0 k e in (omega (arith, s.1), s.2, λ j h. s.3 j (omega arith) h)

    pub first_there : (k : ℕ) → k < n → is_below level (row_in rows k) ≡ true → ((j : ℕ) → j < k → is_below level (row_in rows j) ≡ false)
        → first_below level rows n ≡ At k
    first_there k h t f = from_there n 0 k (omega arith) (omega arith) t (λ j g l. f j l)

    -- None is answered exactly if no row's d[5] is below the level.
    pub none_told : first_below level rows n ≡ Nowhere → (j : ℕ) → j < n → is_below level (row_in rows j) ≡ false
    none_told e j h = from_none n 0 e j (omega arith) (omega arith)

    pub none_there : ((j : ℕ) → j < n → is_below level (row_in rows j) ≡ false) → first_below level rows n ≡ Nowhere
    none_there f = none_from n 0 (λ j g l. f j (omega arith))

-- ---- a NaN never qualifies

pub nan_never : (level : Float) (row : List Float) → row ‼ 5 ≡ nan → is_below level row ≡ false
unfolding is_below lt
nan_never level row e = rw e

pub row_level_nan : (row : List Float) → is_below nan row ≡ false
unfolding is_below
row_level_nan row = lt_nan (row ‼ 5)
