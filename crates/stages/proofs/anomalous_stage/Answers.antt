-- `anomalous_stage` meets its contract.
use Rattle.species.proofs.Laws.{logged_at}
use Rattle.stages.proofs.Laws.{anomalous_law}
use Rattle.stages.proofs.anomalous_stage.Goals as goal

pub anomalous_oxygen-requires : goal.anomalous_oxygen-requires
anomalous_oxygen-requires c = let A = c.args in logged_at A.h A.z _ c.place_alone_at-p.ensures

pub returns : goal.returns
returns c = let A = c.args in
    anomalous_law A.sw A.h A.z A.l
    c.anomalous_oxygen.result c.anomalous_factor-f.result c.place_alone_at-p.result c.exp-g.result c.pdl0-d.result c.pdm7-m.result c.pd8-c.result
    c.anomalous_oxygen.ensures c.anomalous_factor-f.ensures c.place_alone_at-p.ensures c.exp-g.ensures c.pdl0-d.ensures c.pdm7-m.ensures c.pd8-c.ensures
