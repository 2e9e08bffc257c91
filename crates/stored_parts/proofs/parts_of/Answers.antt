-- `parts_of` meets its contract: the parts that the altitudes so far read are counted in.
use mathlib.Core.Path.{◌∙◌}
use native.Mathlib.Omega.{arith}
use Rattle.stored_parts.proofs.Laws.{not_begun, one_more, all_met}
use Rattle.stored_parts.proofs.parts_of.Goals as goal

pub loop-alt-init : goal.loop-alt-init
loop-alt-init c = not_begun _ _ c.no_parts-p.ensures

pub loop-alt-preserved : goal.loop-alt-preserved
loop-alt-preserved c =
    let at = c.loop-alt in
    one_more _ at.alt-index at.p _ _ (omega arith) c.parts_at.ensures c.either_parts-p.ensures ∙ at.invariant

pub returns : goal.returns
returns c =
    let at = c.loop-alt in
    all_met _ at.alt-index at.p (omega arith) ∙ at.invariant
