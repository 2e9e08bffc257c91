-- `rises` meets its contract: the altitudes below i rise.
use mathlib.Core.Path.{◌≡◌}
use Prim.Native.Nat.{◌-◌}
use lib.ListN.{drop, get_or}
use lib.Ieee.{nan}
use Rattle.crossings_list.specs.CrossingsList.{altitudes_rise_from, altitudes_rise}
use Rattle.crossings_list.proofs.rises.Given as goal

abbrev pub invariant-loop-i : goal.invariant-loop-i
invariant-loop-i l = altitudes_rise_from l.i (get_or l.alts (l.i - 1) nan) (drop l.i l.alts) ≡ altitudes_rise l.alts
