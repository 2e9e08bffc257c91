-- `lacking_field` meets its contract: no field below i is lacking.
use mathlib.Core.Path.{◌≡◌}
use Prim.Native.Nat.{◌≤◌, ◌-◌}
use Rattle.known_record.specs.KnownRecord.{lowest_field, lacking, lacking_field}
use Rattle.known_record.proofs.lacking_field.Given as goal

abbrev pub invariant-loop-i : goal.invariant-loop-i
invariant-loop-i l = lowest_field (lacking l.counts l.known l.no_history) l.i (11 - l.i) 17 ≡ lacking_field l.counts l.known l.no_history
