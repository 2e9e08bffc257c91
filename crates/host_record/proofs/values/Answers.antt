-- `values` meets its contract.
use borrow.Author.Tests.{eq-eqb, ne_eqb}
use Rattle.host_record.specs.Record.{values_of}
use Rattle.host_record.proofs.values.Goals as goal

pub returns-then-s-ne7 : goal.returns-then-s-ne7
unfolding values_of
returns-then-s-ne7 c = simp (ne_eqb _ _ c.if-s-ne7.true)

pub returns : goal.returns
unfolding values_of
returns c = simp (eq-eqb _ _ c.if-s-ne7.false)
