-- `gtd7_records` meets its contract: the records below i are answered, and the season that is kept is right.
use mathlib.Core.Path.{◌≡◌}
use lib.ListN.{length}
use Rattle.records.specs.Records.{KeptRight, answers_to, rows_to}
use Rattle.records.proofs.gtd7_records.Given as goal

abbrev pub invariant-loop-i : goal.invariant-loop-i
invariant-loop-i l =
    KeptRight l.w l.kept l.season
    × (l.answers ≡ answers_to l.w l.days l.fields l.ap_arrays l.i l.initial.answers) × (l.rows ≡ rows_to l.w l.days l.fields l.ap_arrays l.i l.initial.rows)
