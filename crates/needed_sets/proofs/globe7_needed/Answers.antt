-- `globe7_needed` meets its contract.
use borrow.Author.Tests.{eq-eqb, ne_eqb}
use Rattle.needed_sets.proofs.globe7_needed.Goals as goal

pub returns-then-k-eq0 : goal.returns-then-k-eq0
returns-then-k-eq0 c = simp (eq-eqb c.args.k 0 c.if-k-eq0.true)

pub returns-then-k-eq10 : goal.returns-then-k-eq10
returns-then-k-eq10 c = let k = c.args.k in simp (ne_eqb k 0 c.if-k-eq0.false, eq-eqb k 10 c.if-k-eq10.true)

pub returns-then-k : goal.returns-then-k
returns-then-k c = let k = c.args.k in simp (ne_eqb k 0 c.if-k-eq0.false, ne_eqb k 10 c.if-k-eq10.false, c.if-k.true)

pub returns : goal.returns
returns c = let k = c.args.k in simp (ne_eqb k 0 c.if-k-eq0.false, ne_eqb k 10 c.if-k-eq10.false, c.if-k.false)
