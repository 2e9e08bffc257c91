-- `count` meets its contract: n of the pairs below i pass the level.
use mathlib.Core.Path.{◌≡◌}
use Prim.Native.Nat.{◌≤◌}
use lib.ListN.{length}
use Rattle.crossings_list.specs.CrossingsList.{passes_at, below, those}
use Rattle.crossings_list.proofs.count.Given as goal

abbrev pub invariant-loop-i : goal.invariant-loop-i
invariant-loop-i l = (l.n ≤ l.i) × (l.n ≡ length (those (passes_at l.level l.d) (below l.i)))
