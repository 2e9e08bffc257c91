-- `altitudes` meets its contract: the altitudes below k have passed.
use mathlib.Core.Path.{◌≡◌}
use Prim.Native.Nat.{◌≤◌, ◌-◌}
use lib.ListN.{length, drop}
use Rattle.altitudes.specs.Altitudes.{altitudes_from}
use Rattle.altitudes.proofs.altitudes.Given as goal

abbrev pub invariant-loop-k : goal.invariant-loop-k
invariant-loop-k l = altitudes_from l.k (drop l.k l.alts) ≡ altitudes_from 0 l.alts
