-- `checked` meets its contract.
use mathlib.Core.Path.{ap, ◌∙◌}
use Rattle.std.specs.Prelude.{Err}
use Rattle.first_below.proofs.Laws.{no_row_lem, a_row}
use Rattle.first_below.proofs.checked.Goals as goal

pub returns-then-len-ne11 : goal.returns-then-len-ne11
returns-then-len-ne11 c =
    ap Err c.at.ensures ∙ (no_row_lem _ _ _ _ c.if-len-ne11.true)

pub returns : goal.returns
returns c = a_row _ _ _ _ c.if-len-ne11.false c.column_answer.result c.column_answer.ensures
