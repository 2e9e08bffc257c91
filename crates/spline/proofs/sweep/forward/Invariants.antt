-- `forward` meets its contract.
use mathlib.Core.Path.{◌≡◌}
use Prim.Native.Nat.{◌-◌}
use Rattle.spline.specs.Sweep.{sweep, forward_of}
use Rattle.spline.proofs.sweep.forward.Given as goal

abbrev pub invariant-loop-i : goal.invariant-loop-i
invariant-loop-i l =
    sweep (l.n - 1 - l.i) l.x l.y l.i l.y2 l.u ≡ forward_of l.x l.y l.n l.initial.y2 l.initial.u
