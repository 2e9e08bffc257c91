-- Two switch rows whose entries 1 to 14 have the same effects (document 02, W-213: no expansion reads entry 0 or an entry from 15 on).
use Rattle.std.specs.Prelude.{ℕ, zero, suc, ◌+◌, Bool, true, false, cond, not, ◌&&◌, ◌||◌, List, eqb, ℤ, pos, negsuc}
use Rattle.setting.specs.Switches.{given, is_one, above_zero}

-- both or neither
abbrev pub alike : Bool → Bool → Bool
alike a b = (a && b) || (not a && not b)

abbrev pub same_number : ℤ → ℤ → Bool
same_number (pos m) (pos n) = eqb m n
same_number (pos m) (negsuc n) = false
same_number (negsuc m) (pos n) = false
same_number (negsuc m) (negsuc n) = eqb m n

-- switch i has one main effect and one cross effect in both rows; entry 9 counts as a number
unfoldable pub same_at : List ℤ → List ℤ → ℕ → Bool
same_at a b i =
    cond (eqb i 9) (same_number (given a i) (given b i))
    (alike (is_one (given a i)) (is_one (given b i)) && alike (above_zero (given a i)) (above_zero (given b i)))

-- the entries i, i + 1, .., m of them
unfoldable pub same_from : ℕ → List ℤ → List ℤ → ℕ → Bool
same_from zero a b i = true
same_from (suc m) a b i = cond (not (same_at a b i)) false (same_from m a b (i + 1))

-- the entries 1 to 14
unfoldable pub same_expansions : List ℤ → List ℤ → Bool
same_expansions a b = same_from 14 a b 1
