-- `glob7s_before` meets its contract.
use borrow.Author.Tests.{lt-ltb, le-ltb}
use Rattle.expansion_values.proofs.glob7s_before.Goals as goal

pub returns-then-k-lt5 : goal.returns-then-k-lt5
returns-then-k-lt5 c = simp (lt-ltb c.args.k 5 c.if-k-lt5.true)

pub returns : goal.returns
returns c = simp (le-ltb c.args.k 5 c.if-k-lt5.false)
