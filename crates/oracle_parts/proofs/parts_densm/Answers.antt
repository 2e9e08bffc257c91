-- `parts_densm` meets its contract.
use mathlib.Core.Path.{ap}
use Rattle.oracle_parts.specs.OracleParts.{two_numbers}
use Rattle.oracle_parts.proofs.Told.{no_room, room}
use Rattle.oracle_parts.proofs.parts_densm.Goals as goal

pub returns-then-out-ne2 : goal.returns-then-out-ne2
returns-then-out-ne2 c = let told = no_room 2 c.args.out.now _ _ c.if-out-ne2.true c.packed.ensures in record { value = told.0; out_after = told.1 }

pub returns : goal.returns
returns c = let told = room 2 c.args.out.now _ _ _ _ c.if-out-ne2.false (ap two_numbers c.densm-a.ensures) c.tell_profile.ensures in record { value = told.0; out_after = told.1 }
