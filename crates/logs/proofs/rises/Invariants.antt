-- `rises` meets its contract: the seconds below i rise.
use mathlib.Core.Path.{◌≡◌}
use Prim.Native.Nat.{◌-◌}
use lib.ListN.{drop, get_or}
use Rattle.logs.specs.Logs.{seconds_rise_from, seconds_rise}
use Rattle.logs.proofs.rises.Given as goal

abbrev pub invariant-loop-i : goal.invariant-loop-i
invariant-loop-i l = seconds_rise_from l.i (get_or l.seconds (l.i - 1) 0) (drop l.i l.seconds) ≡ seconds_rise l.seconds
