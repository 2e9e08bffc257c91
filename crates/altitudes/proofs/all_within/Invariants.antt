-- `all_within` meets its contract: all says it of the altitudes below k.
use mathlib.Core.Path.{◌≡◌}
use mathlib.Core.Bool.{◌&&◌}
use Prim.Native.Nat.{◌≤◌, ◌-◌}
use lib.ListN.{length, drop}
use Rattle.altitudes.specs.Within.{all_within}
use Rattle.altitudes.proofs.all_within.Given as goal

abbrev pub invariant-loop-z : goal.invariant-loop-z
invariant-loop-z l = (l.all && all_within (drop l.z-index l.alts)) ≡ all_within l.alts
