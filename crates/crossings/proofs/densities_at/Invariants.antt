-- `densities_at` meets its contract: the densities of the altitudes below i are written.
use mathlib.Core.Path.{◌≡◌}
use mathlib.Core.List.{◌++◌}
use Prim.Native.Nat.{◌≤◌, ◌-◌}
use lib.ListN.{length, take, drop}
use Rattle.crossings.specs.Stored.{densities_stored}
use Rattle.crossings.proofs.densities_at.Given as goal

abbrev pub invariant-loop-i : goal.invariant-loop-i
invariant-loop-i l =
    l.d ≡ densities_stored l.sw0 l.sw15 l.numbers (take l.i l.alts) ++ drop l.i l.initial.d
