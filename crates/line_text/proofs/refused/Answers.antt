-- `refused` meets its contract.
use borrow.Author.Rules.{rules}
use Rattle.line_text.specs.Text.{refused_text}
use Rattle.line_text.proofs.Laws.{joined, refused_fits}
use Rattle.line_text.proofs.refused.Goals as goal

pub returns : goal.returns
unfolding refused_text
returns c = (
  joined _ _ _ _ _ _ _ _ (search rules)
      (joined _ _ _ _ _ _ _ _ (search rules)
      (joined _ _ _ _ _ _ _ _ (search rules) (joined _ _ _ _ _ _ _ _ (search rules) c.put-a.ensures c.decimal-b.ensures.0) c.put-c.ensures) c.decimal-d.ensures.0) c.put.ensures,
  refused_fits _ _ c.decimal-b.ensures.1 c.decimal-d.ensures.1,
)
