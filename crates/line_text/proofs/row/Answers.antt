-- `row` meets its contract.
use borrow.Author.Rules.{rules}
use Rattle.line_text.specs.Text.{row_text}
use Rattle.line_text.proofs.Laws.{joined, row_fits}
use Rattle.line_text.proofs.row.Goals as goal

pub returns : goal.returns
unfolding row_text
returns c =
    (joined _ _ _ _ _ _ _ _ (search rules) (joined _ _ _ _ _ _ _ _ (search rules) c.put-a.ensures c.spaced-b.ensures.0) c.put.ensures, row_fits _ c.spaced-b.ensures.1)
