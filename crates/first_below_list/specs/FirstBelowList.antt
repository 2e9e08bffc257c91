-- Document 02, W-214, over the rows of a column, eleven numbers to an altitude: 'the first altitude in a column whose d[5] is below a level'.
use Rattle.refusals.specs.declared.Refusal.{Refusal}
use Rattle.refusals.specs.Refusals.{Refused}
use Rattle.std.specs.Prelude.{ℕ, zero, suc, ◌+◌, ◌*◌, Bool, cond, List, take, drop, Float, Err, None, Ok, Some, Result, Option}
use Rattle.std.specs.Float.Ieee.{lt}
use Rattle.numbers.specs.Arithmetic.{◌‼◌}

-- an answer: the index of the first altitude thin enough, none, or a refusal
abbrev pub First : Type 0
First = Result (Option ℕ) Refusal

abbrev pub At : ℕ → First
At k = Ok (Some k)

abbrev pub Nowhere : First
Nowhere = Ok None

-- whether a row's d[5] is below the level; 'a NaN never' is, nor is anything below a NaN
unfoldable pub is_below : Float → List Float → Bool
is_below level row = lt (row ‼ 5) level

-- the eleven numbers of the altitude with the index k
unfoldable pub row_in : List Float → ℕ → List Float
row_in rows k = take 11 (drop (11 * k) rows)

-- the lowest index of the m from k on whose row is below the level
unfoldable pub first_from : Float → List Float → ℕ → ℕ → First
first_from level rows zero k = Nowhere
first_from level rows (suc m) k = cond (is_below level (row_in rows k)) (At k) (first_from level rows m (k + 1))

-- of n altitudes
abbrev pub first_below : Float → List Float → ℕ → First
first_below level rows n = first_from level rows n 0

-- the lent row xs after an answer: 'its eleven numbers', or 'untouched'
abbrev pub first_row : First → List Float → List Float → List Float
first_row (Ok (Some k)) rows xs = row_in rows k
first_row (Ok None) rows xs = xs
first_row (Err r) rows xs = xs
