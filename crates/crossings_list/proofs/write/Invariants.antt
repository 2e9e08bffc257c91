-- `write` meets its contract: the list of the pairs below i stands at the start.
use mathlib.Core.Path.{◌≡◌}
use mathlib.Core.List.{◌++◌}
use lib.ListN.{length, drop}
use Rattle.crossings_list.specs.CrossingsList.{passes_at, below, those}
use Rattle.crossings_list.proofs.write.Given as goal

abbrev pub invariant-loop-i : goal.invariant-loop-i
invariant-loop-i l =
    (l.n ≡ length (those (passes_at l.level l.d) (below l.i))) × (l.out ≡ those (passes_at l.level l.d) (below l.i) ++ drop l.n l.initial.out)
