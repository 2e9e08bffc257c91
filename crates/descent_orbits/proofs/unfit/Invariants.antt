-- `unfit` meets its contract: the settings below i are from 1 to 4.
use mathlib.Core.Path.{◌≡◌}
use Prim.Native.Nat.{◌≤◌, ◌-◌}
use lib.ListN.{length, drop}
use Rattle.descent_orbits.specs.DescentOrbits.{unfit_setting_from, unfit_setting}
use Rattle.descent_orbits.proofs.unfit.Given as goal

abbrev pub invariant-loop-i : goal.invariant-loop-i
invariant-loop-i l = unfit_setting_from l.i (drop l.i l.settings) ≡ unfit_setting l.settings
