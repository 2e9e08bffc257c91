-- `history` meets its contract.
use borrow.Author.Tests.{eq-eqb, ne_eqb}
use Rattle.host_record.specs.Record.{history_of_length}
use Rattle.host_record.proofs.history.Goals as goal

pub returns-then-len-eq7 : goal.returns-then-len-eq7
unfolding history_of_length
returns-then-len-eq7 c = simp (eq-eqb _ _ c.if-len-eq7.true)

pub returns : goal.returns
unfolding history_of_length
returns c = simp (ne_eqb _ _ c.if-len-eq7.false)
