-- `node_xs` meets its contract.
use mathlib.Core.Path.{◌≡◌}
use Prim.Native.Nat.{◌-◌}
use Rattle.profile.specs.Curve.{nodes_from, node_xs_of}
use Rattle.profile.proofs.curve.node_xs.Given as goal

abbrev pub invariant-loop-k : goal.invariant-loop-k
invariant-loop-k l =
    nodes_from (l.n - l.k) l.re l.zn l.z1 l.zgdif l.k l.xs ≡ node_xs_of l.re l.zn l.n l.z1 l.zgdif
