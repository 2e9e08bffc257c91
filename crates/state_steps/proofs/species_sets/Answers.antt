-- `species_sets` meets its contract.
use Rattle.stages.specs.Stages.{densu_sets}
use Rattle.state_steps.proofs.Laws.{first_made, also_made}
use Rattle.state_steps.proofs.species_sets.Goals as goal

pub returns : goal.returns
returns c =
    let A = c.args in
    also_made A.s c.densu_where-b.result c.densu_where.result A.on (densu_sets A.h A.z) (densu_sets A.h A.zh) (densu_sets A.h A.z)
    c.densu_where.ensures
    (first_made A.s c.densu_sets-a.result c.densu_where-b.result A.on (densu_sets A.h A.z) (densu_sets A.h A.zh)
    c.densu_where-b.ensures c.densu_sets-a.ensures)
