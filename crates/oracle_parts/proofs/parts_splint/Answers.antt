-- `parts_splint` meets its contract.
use mathlib.Core.Path.{ap}
use Rattle.oracle_parts.specs.OracleParts.{one_number}
use Rattle.oracle_parts.proofs.Told.{no_room, room}
use Rattle.oracle_parts.proofs.parts_splint.Goals as goal

pub returns-then-out-ne1 : goal.returns-then-out-ne1
returns-then-out-ne1 c = let told = no_room 1 c.args.out.now _ _ c.if-out-ne1.true c.packed.ensures in record { value = told.0; out_after = told.1 }

pub returns : goal.returns
returns c = let told = room 1 c.args.out.now _ _ _ _ c.if-out-ne1.false (ap one_number c.splint-a.ensures) c.tell_value.ensures in record { value = told.0; out_after = told.1 }
