-- `entry` meets its contract.
use borrow.Author.Tests.{eq-eqb, ne_eqb}
use Rattle.oracle_expansion.specs.OracleExpansion.{entry_of}
use Rattle.oracle_expansion.proofs.entry.Goals as goal

pub returns-then-k-eq0 : goal.returns-then-k-eq0
unfolding entry_of
returns-then-k-eq0 c = simp (eq-eqb _ _ c.if-k-eq0.true)

pub returns : goal.returns
unfolding entry_of
returns c = simp (ne_eqb _ _ c.if-k-eq0.false, c.number.ensures)
