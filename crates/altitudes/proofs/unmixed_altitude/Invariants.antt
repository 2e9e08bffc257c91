-- `unmixed_altitude` meets its contract: N2 is mixed at the altitudes below k, or they lie at or above 72.5 km.
use mathlib.Core.Path.{◌≡◌}
use Prim.Native.Nat.{◌≤◌, ◌-◌}
use lib.ListN.{length, drop}
use Rattle.altitudes.specs.Altitudes.{unmixed_from}
use Rattle.altitudes.proofs.unmixed_altitude.Given as goal

abbrev pub invariant-loop-k : goal.invariant-loop-k
invariant-loop-k l = unmixed_from l.on l.k (drop l.k l.alts) ≡ unmixed_from l.on 0 l.alts
