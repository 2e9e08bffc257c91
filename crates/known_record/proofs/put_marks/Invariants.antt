-- `put_marks` meets its contract: the entries below i are written.
use mathlib.Core.Path.{◌≡◌}
use Prim.Native.Nat.{ℕ, ◌≤◌, ◌<◌, ◌-◌}
use lib.IntN.{pos}
use lib.ListN.{length, get_or}
use Rattle.known_record.specs.KnownRecord.{marks_of}
use Rattle.known_record.proofs.put_marks.Given as goal

abbrev pub invariant-loop-i : goal.invariant-loop-i
invariant-loop-i l = (k : ℕ) → k < l.i → get_or l.out k (pos 0) ≡ get_or (marks_of l.marks) k (pos 0)
