-- `glob7s_needed` meets its contract.
use borrow.Author.Tests.{lt-ltb, le-ltb}
use Rattle.needed_sets.proofs.glob7s_needed.Goals as goal

pub returns-then-k-lt5 : goal.returns-then-k-lt5
returns-then-k-lt5 c = simp (lt-ltb c.args.k 5 c.if-k-lt5.true)

pub returns-then-k-lt9 : goal.returns-then-k-lt9
returns-then-k-lt9 c = let k = c.args.k in simp (le-ltb k 5 c.if-k-lt5.false, lt-ltb k 9 c.if-k-lt9.true)

pub returns : goal.returns
returns c = let k = c.args.k in simp (le-ltb k 5 c.if-k-lt5.false, le-ltb k 9 c.if-k-lt9.false)
