-- `splint` meets its contract.
use mathlib.Core.Path.{◌≡◌}
use Prim.Native.Nat.{ℕ, ◌≤◌, ◌<◌, ◌-◌}
use Rattle.spline.specs.Nodes.{searched, splint_of}
use Rattle.spline.proofs.nodes.splint.Given as goal

abbrev pub invariant-loop-khi : goal.invariant-loop-khi
invariant-loop-khi l =
    (l.klo < l.khi) × (l.khi ≤ l.n - 1) × ((m : ℕ) × (l.khi - l.klo ≤ m) × (searched m l.xa l.ya l.y2a l.x l.klo l.khi ≡ splint_of l.xa l.ya l.y2a l.n l.x))

abbrev pub decreases-loop-khi : goal.decreases-loop-khi
decreases-loop-khi l = l.khi - l.klo
