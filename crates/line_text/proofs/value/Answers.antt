-- `value` meets its contract.
use borrow.Author.Rules.{rules}
use Rattle.line_text.specs.Text.{value_text}
use Rattle.line_text.proofs.Laws.{joined, value_fits}
use Rattle.line_text.proofs.value.Goals as goal

pub returns : goal.returns
unfolding value_text
returns c =
    (joined _ _ _ _ _ _ _ _ (search rules) (joined _ _ _ _ _ _ _ _ (search rules) c.put-a.ensures c.hex-b.ensures.0) c.put.ensures, value_fits _)
