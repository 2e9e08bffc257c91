-- `node_ys` meets its contract.
use mathlib.Core.Path.{sym, ◌∙◌}
use native.Mathlib.Numerals.{unary_clauses}
use native.Mathlib.Omega.{arith}
use Rattle.profile.specs.Curve.{node_ys_of}
use Rattle.profile.proofs.Walk.{inverses_more, inverses_done}
use Rattle.profile.proofs.curve.node_ys.Goals as goal

pub loop-k-init : goal.loop-k-init
unfolding node_ys_of
loop-k-init c = simp unary_clauses

pub loop-k-preserved : goal.loop-k-preserved
loop-k-preserved c =
    let at = c.loop-k in
    sym (inverses_more _ _ at.k at.ys (omega arith)) ∙ at.invariant

pub returns : goal.returns
returns c = sym (inverses_done _ _ _ _ (omega arith)) ∙ c.loop-k.invariant
