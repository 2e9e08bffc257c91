-- `shape_stage` meets its contract.
use Rattle.thermosphere.proofs.Laws.{shape_law}
use Rattle.thermosphere.proofs.shape_stage.Goals as goal

pub returns : goal.returns
returns c = let A = c.args in
    shape_law A.sw A.x A.z A.l
    c.shape_of.result
    c.nodes_stage-n.result
    c.tlb_stage-tlb.result
    c.gradient_stage-g.result
    c.tinf_stage-tinf.result
    c.shape_of.ensures
    c.nodes_stage-n.ensures
    c.tlb_stage-tlb.ensures
    c.gradient_stage-g.ensures
    c.tinf_stage-tinf.ensures
