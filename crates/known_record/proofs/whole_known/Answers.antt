-- `whole_known` meets its contract.
use borrow.Author.Rules.{rules}
use Rattle.known_record.proofs.whole_known.Goals as goal

pub returns-then-known_at : goal.returns-then-known_at
returns-then-known_at c = simp (← c.known_at.ensures) (simp c.if-known_at.true (search rules))

pub returns : goal.returns
returns c = simp (← c.known_at.ensures) (simp c.if-known_at.false)
