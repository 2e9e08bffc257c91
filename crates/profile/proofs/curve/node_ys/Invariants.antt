-- `node_ys` meets its contract.
use mathlib.Core.Path.{◌≡◌}
use Prim.Native.Nat.{◌-◌}
use Rattle.profile.specs.Curve.{inverses_from, node_ys_of}
use Rattle.profile.proofs.curve.node_ys.Given as goal

abbrev pub invariant-loop-k : goal.invariant-loop-k
invariant-loop-k l =
    inverses_from (l.n - l.k) l.tn l.k l.ys ≡ node_ys_of l.tn l.n
