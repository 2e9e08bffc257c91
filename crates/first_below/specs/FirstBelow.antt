-- Document 02's W-214, the first altitude thin enough: its refusals in order, the index, and the lent row afterwards.
use Rattle.std.specs.Prelude.{ℕ, ◌*◌, cond, not, List, eqb, ℤ, length, Float, Err, Ok}
use Rattle.refusals.specs.Refusals.{Accepted, Answer, Refused, refused_or}
use Rattle.refusals.specs.declared.Reason.TheVariants.{WrongLength}
use Rattle.setting.specs.declared.Input.{Input}
use Rattle.altitudes.specs.Altitudes.{column_answer}
use Rattle.column.specs.Column.{column_rows}
use Rattle.first_below_list.specs.FirstBelowList.{first_below, first_row, First}

-- 'the row's length is checked as in the one-altitude call', 4 at 11 for another one, 'the rest as in the column'; no rows are lent, so the
-- column's buffer is taken to have the length needed, and its own 4 can't occur
unfoldable pub first_below_checked : List ℤ → Input → List Float → ℕ → Answer
first_below_checked w n alts len = cond (not (eqb len 11)) (Refused WrongLength 11) (column_answer w n alts (11 * length alts))

-- 'the first altitude in a column whose d[5] is below a level', as 'the full column gives' it: among all its rows
unfoldable pub first_of : List ℤ → Input → List Float → Float → First
first_of w n alts level = first_below level (column_rows w n alts) (length alts)

-- the answer, with a lent row of len numbers
unfoldable pub first_answer : List ℤ → Input → List Float → Float → ℕ → First
first_answer w n alts level len = refused_or (first_below_checked w n alts len) (first_of w n alts level)

-- the lent row afterwards: where an index is answered the full column's eleven numbers there, else as it was
unfoldable pub first_after : List ℤ → Input → List Float → Float → List Float → List Float
first_after w n alts level xs = first_row (first_answer w n alts level (length xs)) (column_rows w n alts) xs
