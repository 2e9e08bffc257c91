-- A match that is a table: what an arm gives, and what the last one knows. Its number is none of the keys 0 to n - 1, so it is n or more. Assumes nothing.
use mathlib.Core.Path.{◌≡◌, sym, ap, ◌∙◌}
use mathlib.Core.List.{List, [], ◌∷◌}
use Prim.Native.Nat.{ℕ, zero, suc, ◌≤◌, zero-le}
use native.Mathlib.Omega.{arith}
use lib.ListN.{get_or}
use types.Run.{OneOf}

abbrev pub Rest : ℕ → ℕ → Type 0
Rest zero i = Unit {0}
Rest (suc n) i = Rest n i × (OneOf (n ∷ []) i → ⊥)

step : (n i : ℕ) → n ≤ i → (i ≡ n → ⊥) → suc n ≤ i
step n i h k = omega arith

pub rest_above : (n i : ℕ) → Rest n i → n ≤ i
rest_above zero i r = zero-le
rest_above (suc n) i r = step n i (rest_above n i r.0) r.1

-- the arm of the key k gives the entry at k. The table is handed on by its name, so that a proof of many arms does not hold it many times
pub entry_at : (table : List ℕ) {i k v : ℕ} → i ≡ k → v ≡ get_or table k 0 → v ≡ get_or table i 0
entry_at table e f = f ∙ sym (ap (λ (j : ℕ). get_or table j 0) e)
