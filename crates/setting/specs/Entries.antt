-- The switch row, entry by entry: document 01's sentence on sw and swc, for each of the 24.
use Rattle.std.specs.Prelude.{ℕ, zero, suc, ◌+◌, ◌<◌, ◌≤◌, ◌≡◌, refl, Bool, true, false, List, eqb, ltb, ℤ, length, set, replicate, Float}
use Rattle.std.proofs.Common.{sym, ap, ◌∙◌, arith, ltb-true, ltb-false, eqb-true, length-set, get_or-set_same, get_or-set_other}
use Rattle.std.proofs.lemmas.Bool.{eqb-false}
use Rattle.std.proofs.lemmas.List.{length-replicate}
use Rattle.numbers.specs.Arithmetic.{◌‼◌}
use Rattle.numbers.specs.Literals.{0·0}
use Rattle.setting.specs.Switches.{sw_at, swc_at, filled, sw_of, swc_of}

-- filling from i on leaves what stands before it
pub filled_before : (n : ℕ) (f : ℕ → Float) (i : ℕ) (a : List Float) (j : ℕ) → j < i → filled n f i a ‼ j ≡ a ‼ j
unfolding filled
filled_before zero f i a j h = refl
filled_before (suc n) f i a j h = filled_before n f (i + 1) (set a i (f i)) j (omega arith) ∙ get_or-set_other a i j (f i) _ (λ e. omega arith)

-- and sets n entries
pub filled_at : (n : ℕ) (f : ℕ → Float) (i : ℕ) (a : List Float) (j : ℕ) → i ≤ j → j < i + n → i + n ≤ length a → filled n f i a ‼ j ≡ f j
unfolding filled
filled_at zero f i a j g h l = absurd (none g h)
  where
    none : i ≤ j → j < i + 0 → ⊥
    none u v = omega arith
filled_at (suc n) f i a j g h l = go (ltb i j) refl (filled_at n f (i + 1) (set a i (f i)) j)
  where
    go : (b : Bool) → ltb i j ≡ b → (i + 1 ≤ j → j < i + 1 + n → i + 1 + n ≤ length (set a i (f i)) → filled n f (i + 1) (set a i (f i)) ‼ j ≡ f j)
        → filled n f (i + 1) (set a i (f i)) ‼ j ≡ f j
    go true e r = r (omega (arith, ltb-true i j e)) (omega arith) (rw (length-set a i (f i)) (omega arith))
    go false e r =
        let s : j ≡ i = omega (arith, ltb-false i j e) in
        rw s (filled_before n f (i + 1) (set a i (f i)) i (omega arith) ∙ get_or-set_same a i (f i) _ (omega arith))

pub length_filled : (n : ℕ) (f : ℕ → Float) (i : ℕ) (a : List Float) → length (filled n f i a) ≡ length a
unfolding filled
length_filled zero f i a = refl
length_filled (suc n) f i a = length_filled n f (i + 1) (set a i (f i)) ∙ length-set a i (f i)

-- an entry that is what f gives stays so
pub filled_keeps : (n : ℕ) (f : ℕ → Float) (i : ℕ) (a : List Float) (j : ℕ) → i + n ≤ length a → a ‼ j ≡ f j → filled n f i a ‼ j ≡ f j
unfolding filled
filled_keeps zero f i a j l h = h
filled_keeps (suc n) f i a j l h = filled_keeps n f (i + 1) (set a i (f i)) j (rw (length-set a i (f i)) (omega arith)) (go (eqb j i) refl)
  where
    go : (b : Bool) → eqb j i ≡ b → set a i (f i) ‼ j ≡ f j
    go true e = let s : j ≡ i = eqb-true j i e in rw s (get_or-set_same a i (f i) _ (omega arith))
    go false e = get_or-set_other a i j (f i) _ (eqb-false j i e) ∙ h

-- 'Entry 9 copies its integer to sw and swc. Any other entry: sw is 1 only for value 1, swc is 1 for any value above 0.'
pub entry_told : (w : List ℤ) (i : ℕ) → i < 24 → (sw_of w ‼ i ≡ sw_at w i) × (swc_of w ‼ i ≡ swc_at w i)
unfolding sw_of swc_of
entry_told w i h =
    let room : 24 ≤ length (replicate 24 0·0) = rw (length-replicate 24 0·0) (omega arith) in
    (filled_at 24 (sw_at w) 0 (replicate 24 0·0) i (omega arith) (omega arith) room, filled_at 24 (swc_at w) 0 (replicate 24 0·0) i (omega arith) (omega arith) room)
