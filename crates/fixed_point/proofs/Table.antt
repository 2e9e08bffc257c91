-- What a computed test over a list of numbers says of each entry. Assumes nothing.
use mathlib.Core.Bool.{Bool, true, ◌&&◌}
use mathlib.Core.List.{List, [], ◌∷◌}
use Prim.Native.Nat.{ℕ, zero, suc, ◌≤◌, ◌<◌, zero-le}
use native.Mathlib.Nat.{not-suc-le-zero, le_of_suc-le-suc}
use lib.ListN.{length, get_or}
use lib.Dec.{T, leb, leb→le}
use lib.Ieee.Fits.{and_l, and_r}

abbrev pub all_below : ℕ → List ℕ → Bool
all_below B [] = true
all_below B (x ∷ xs) = leb x B && all_below B xs

-- an entry of a list whose entries are all at most B is at most B, past the end too
pub at_most : (B : ℕ) (xs : List ℕ) (i : ℕ) → T (all_below B xs) → get_or xs i 0 ≤ B
at_most B [] i t = zero-le
at_most B (x ∷ xs) zero t = leb→le x B (and_l (leb x B) (all_below B xs) t)
at_most B (x ∷ xs) (suc i) t = at_most B xs i (and_r (leb x B) (all_below B xs) t)

abbrev pub all_above : ℕ → List ℕ → Bool
all_above B [] = true
all_above B (x ∷ xs) = leb B x && all_above B xs

pub at_least : (B : ℕ) (xs : List ℕ) (i : ℕ) → T (all_above B xs) → i < length xs → B ≤ get_or xs i 0
at_least B [] i t h = absurd (not-suc-le-zero h)
at_least B (x ∷ xs) zero t h = leb→le B x (and_l (leb B x) (all_above B xs) t)
at_least B (x ∷ xs) (suc i) t h = at_least B xs i (and_r (leb B x) (all_above B xs) t) (le_of_suc-le-suc h)
