-- `shape_step` meets its contract.
use Rattle.model_state.proofs.Laws.{shape_step}
use Rattle.model_state.proofs.shape_step.Goals as goal

pub returns : goal.returns
returns c = let A = c.args in
    shape_step A.sw A.x A.z A.l A.s c.nodes_step-n.result.state c.shape_of-h.result c.nodes_step-n.result.value c.tlb_stage-tlb.result c.gradient_stage-g.result c.tinf_stage-tinf.result
    c.shape_of-h.ensures c.nodes_step-n.ensures c.tlb_stage-tlb.ensures c.gradient_stage-g.ensures c.tinf_stage-tinf.ensures
