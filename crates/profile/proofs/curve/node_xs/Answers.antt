-- `node_xs` meets its contract.
use mathlib.Core.Path.{sym, ◌∙◌}
use native.Mathlib.Numerals.{unary_clauses}
use native.Mathlib.Omega.{arith}
use Rattle.profile.specs.Curve.{node_xs_of}
use Rattle.profile.proofs.Walk.{nodes_more, nodes_done}
use Rattle.profile.proofs.curve.node_xs.Goals as goal

pub loop-k-init : goal.loop-k-init
unfolding node_xs_of
loop-k-init c = simp unary_clauses

pub zeta-requires : goal.zeta-requires
zeta-requires c = tt

pub loop-k-preserved : goal.loop-k-preserved
loop-k-preserved c =
    let at = c.loop-k in
    rw c.zeta.ensures (sym (nodes_more _ _ _ _ _ at.k at.xs (omega arith)) ∙ at.invariant)

pub returns : goal.returns
returns c = sym (nodes_done _ _ _ _ _ _ _ (omega arith)) ∙ c.loop-k.invariant
