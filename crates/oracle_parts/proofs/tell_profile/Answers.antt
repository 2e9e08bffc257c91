-- `tell_profile` meets its contract.
use Rattle.oracle_parts.proofs.Told.{profile_refused, profile_given}
use Rattle.oracle_parts.proofs.tell_profile.Goals as goal

pub returns-in-Ok : goal.returns-in-Ok
returns-in-Ok c = rw c.in-Ok.is (profile_given _ _ _ _ c.returned_number.ensures c.temperature_in.ensures c.requires)

pub returns-in-Err : goal.returns-in-Err
returns-in-Err c = rw c.in-Err.is (profile_refused _ _ _ c.code.ensures)
