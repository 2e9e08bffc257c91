-- `tselec` meets its contract: at each turn the rest of the filling gives the whole rows.
use Prim.Native.Nat.{◌-◌, ◌≤◌}
use mathlib.Core.Path.{◌≡◌}
use lib.ListN.{length}
use Rattle.setting.specs.Switches.{filled}
use Rattle.setting.proofs.Fill.{main_at, cross_at, zeros}
use Rattle.setting.proofs.switches.tselec.Given as goal

abbrev pub invariant-loop-i : goal.invariant-loop-i
invariant-loop-i l =
    (filled (24 - l.i) (main_at l.w) l.i l.sw ≡ filled 24 (main_at l.w) 0 zeros) × (filled (24 - l.i) (cross_at l.w) l.i l.swc ≡ filled 24 (cross_at l.w) 0 zeros)
