-- Document 02, W-206, over given densities: the pairs of neighbours between which they pass a level, and the test that altitudes rise.
use Rattle.std.specs.Prelude.{ℕ, zero, suc, ◌+◌, ◌-◌, Bool, cond, ◌&&◌, ◌||◌, List, [], ◌∷◌, ◌++◌, ltb, length, drop, Float, Result, Ok}
use Rattle.std.specs.Float.Ieee.{lt, le}
use Rattle.numbers.specs.Arithmetic.{◌‼◌}
use Rattle.refusals.specs.declared.Refusal.{Refusal}
use Rattle.refusals.specs.Refusals.{Refused}
use Rattle.refusals.specs.declared.Reason.TheVariants.{ListTooShort}

-- an answer: how long the list is, or a refusal
abbrev pub Listing : Type 0
Listing = Result ℕ Refusal

abbrev pub Listed : ℕ → Listing
Listed n = Ok n

-- at or above the level on one side and below on the other; a comparison with a NaN is false
unfoldable pub passes_of : Float → Float → Float → Bool
passes_of level a b = (le level a && lt b level) || (lt a level && le level b)

-- whether the pair of i and i + 1 passes the level
abbrev pub passes_at : Float → List Float → ℕ → Bool
passes_at level d i = passes_of level (d ‼ i) (d ‼ (i + 1))

-- 0, 1, .. n - 1
unfoldable pub below : ℕ → List ℕ
below zero = []
below (suc n) = below n ++ (n ∷ [])

-- those of a list that have a property, in its order
unfoldable pub those : (ℕ → Bool) → List ℕ → List ℕ
those p [] = []
those p (i ∷ l) = cond (p i) (i ∷ those p l) (those p l)

-- every index i below n - 1 whose pair passes the level, lowest first
unfoldable pub crossings_of : Float → List Float → List ℕ
crossings_of level d = those (passes_at level d) (below (length d - 1))

-- the answer to a list l and a buffer of len numbers: 9 where the buffer is shorter than the list, at the length needed; else the list's length
unfoldable pub list_answer : List ℕ → ℕ → Listing
list_answer l len = cond (ltb len (length l)) (Refused ListTooShort (length l)) (Listed (length l))

-- the buffer xs afterwards: the list at its start and the rest as it was, or all as it was where it is too short
unfoldable pub list_after : List ℕ → List ℕ → List ℕ
list_after l xs = cond (ltb (length xs) (length l)) xs (l ++ drop (length l) xs)

-- 8's place: the lowest index whose altitude is not above the one before it, or how many altitudes there are where they rise strictly; a is the
-- last of the i altitudes that were passed
unfoldable pub altitudes_rise_from : ℕ → Float → List Float → ℕ
altitudes_rise_from i a [] = i
altitudes_rise_from i a (b ∷ s) = cond (lt a b) (altitudes_rise_from (i + 1) b s) i

abbrev pub altitudes_rise : List Float → ℕ
altitudes_rise [] = 0
altitudes_rise (a ∷ s) = altitudes_rise_from 1 a s
