-- `orbits` meets its contract: the first i orbits are flown, down to a.
use mathlib.Core.Path.{◌≡◌}
use Prim.Native.Nat.{◌≤◌, ◌-◌}
use lib.ListN.{length}
use Rattle.descent_orbits.proofs.Turns.{Flown}
use Rattle.descent.specs.Stored.{station_density}
use Rattle.descent.proofs.orbits.Given as goal

abbrev pub invariant-loop-i : goal.invariant-loop-i
invariant-loop-i l =
    (200000000 ≤ l.a) × (l.a ≤ 1000000000) × Flown (station_density l.whole l.numbers) l.start l.settings l.initial.losses l.a l.i l.losses
