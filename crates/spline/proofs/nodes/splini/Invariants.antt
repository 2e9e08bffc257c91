-- `splini` meets its contract.
use mathlib.Core.Path.{◌≡◌}
use Prim.Native.Nat.{◌-◌}
use Rattle.spline.specs.Nodes.{integral, splini_of}
use Rattle.spline.proofs.nodes.splini.Given as goal

abbrev pub invariant-loop-klo : goal.invariant-loop-klo
invariant-loop-klo l =
    integral (l.n - 1 - l.klo) l.xa l.ya l.y2a l.n l.x l.klo l.yi ≡ splini_of l.xa l.ya l.y2a l.n l.x
