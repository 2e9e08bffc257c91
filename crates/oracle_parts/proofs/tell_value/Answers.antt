-- `tell_value` meets its contract.
use Rattle.oracle_parts.proofs.Told.{value_refused, value_given}
use Rattle.oracle_parts.proofs.tell_value.Goals as goal

pub returns-in-Ok : goal.returns-in-Ok
returns-in-Ok c = rw c.in-Ok.is (value_given _ _ c.requires)

pub returns-in-Err : goal.returns-in-Err
returns-in-Err c = rw c.in-Err.is (value_refused _ _ _ c.code.ensures)
