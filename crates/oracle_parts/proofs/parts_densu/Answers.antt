-- `parts_densu` meets its contract.
use mathlib.Core.Path.{ap}
use Rattle.oracle_parts.specs.OracleParts.{two_numbers}
use Rattle.oracle_parts.proofs.Told.{no_room, room, kept_as_lent, kept_changed}
use Rattle.oracle_parts.proofs.parts_densu.Goals as goal

pub returns-then-out-ne2 : goal.returns-then-out-ne2
returns-then-out-ne2 c =
    let A = c.args in
    let told = no_room 2 A.out.now _ _ c.if-out-ne2.true c.packed.ensures in
    record { value = told.0; out_after = told.1; tn1_after = kept_as_lent 2 A.out.now _ _ c.if-out-ne2.true; tgn1_after = kept_as_lent 2 A.out.now _ _ c.if-out-ne2.true }

pub returns : goal.returns
returns c =
    let xs = c.args.out.now in
    let fits = c.if-out-ne2.false in
    let e = c.densu-a.ensures in
    let told = room 2 xs _ _ _ _ fits (ap two_numbers e.result_value) c.tell_profile.ensures in
    record { value = told.0; out_after = told.1; tn1_after = kept_changed 2 xs _ _ _ fits e.tn1_after; tgn1_after = kept_changed 2 xs _ _ _ fits e.tgn1_after }
