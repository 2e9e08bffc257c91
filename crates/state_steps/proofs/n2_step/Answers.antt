-- `n2_step` meets its contract.
use Rattle.state_steps.proofs.Laws.{n2_step_law}
use Rattle.state_steps.proofs.n2_step.Goals as goal

pub n2_stage-b-requires : goal.n2_stage-b-requires
n2_stage-b-requires c = c.requires

pub returns : goal.returns
returns c = let A = c.args in
    n2_step_law A.sw A.h A.on A.z A.zhf A.xmm A.l A.s
    c.densu_sets-s1.result c.densu_sets-s2.result c.densu_where-s3.result c.set_dm28-s4.result c.n2_stage-b.result c.pdm2-m.result
    c.set_dm28-s4.ensures c.densu_where-s3.ensures c.densu_sets-s2.ensures c.densu_sets-s1.ensures c.n2_stage-b.ensures c.pdm2-m.ensures
