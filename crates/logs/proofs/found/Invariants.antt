-- `found` meets its contract: the first n numbers are in the table, and the logs from i and from j on give the others.
use mathlib.Core.Path.{◌≡◌}
use Prim.Native.Nat.{◌≤◌, ◌+◌, ◌-◌}
use lib.ListN.{length}
use Rattle.logs.specs.Logs.{entries_of}
use Rattle.logs.proofs.Laws.{Filled}
use Rattle.logs.proofs.found.Given as goal

abbrev pub invariant-loop-k : goal.invariant-loop-k
invariant-loop-k l =
    (l.i ≤ length l.s1) × (l.j ≤ length l.s2) × (l.n ≤ l.i + l.j) × (length l.table ≡ 512) × Filled l.tolerance (entries_of l.s1 l.b1) (entries_of l.s2 l.b2) l.table l.n l.i l.j

abbrev pub decreases-loop-k : goal.decreases-loop-k
decreases-loop-k l = length l.s1 + length l.s2 - (l.i + l.j)
