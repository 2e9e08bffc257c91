-- `splini` meets its contract.
use native.Mathlib.Numerals.{unary_clauses}
use mathlib.Core.Path.{sym, ◌∙◌}
use native.Mathlib.Omega.{arith}
use borrow.Author.Tests.{not-true, not-false}
use Rattle.spline.specs.Nodes.{splini_of}
use Rattle.spline.proofs.Walks.{segment_more, segment_left, segment_last}
use Rattle.spline.proofs.nodes.splini.Goals as goal

pub loop-klo-init : goal.loop-klo-init
unfolding splini_of
loop-klo-init c = simp unary_clauses

pub loop-klo-preserved : goal.loop-klo-preserved
loop-klo-preserved c =
    let at = c.loop-klo in
    rw c.segment-yi.ensures (sym (segment_more _ _ _ _ _ at.klo at.yi (omega arith) (not-false _ c.if-not-x-xa.false-raw)) ∙ at.invariant)

pub returns-then-not-x-xa : goal.returns-then-not-x-xa
returns-then-not-x-xa c = sym (segment_left _ _ _ _ _ _ _ _ (not-true _ c.if-not-x-xa.true-raw)) ∙ c.loop-klo.invariant

pub returns : goal.returns
returns c = sym (segment_last _ _ _ _ _ _ _ (omega arith)) ∙ c.loop-klo.invariant
