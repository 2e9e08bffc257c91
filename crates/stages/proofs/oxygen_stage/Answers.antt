-- `oxygen_stage` meets its contract.
use lib.Ieee.{Float}
use Rattle.numbers.specs.Arithmetic.{◌‼◌}
use Rattle.plan.specs.Plan.{told, ◌>>=◌}
use Rattle.species.specs.Species.{oxygen_of}
use Rattle.species.specs.Rooted.{oxygen_root_is, oxygen_is}
use Rattle.stages.specs.Stages.{oxygen_plan}
use Rattle.tables.specs.Tables.{pdm_t1, pd_t1}
use Rattle.species.proofs.Laws.{logged_at}
use Rattle.stages.proofs.Laws.{logged_there, species_law}
use Rattle.stages.proofs.oxygen_stage.Goals as goal

pub oxygen_root-q-requires : goal.oxygen_root-q-requires
oxygen_root-q-requires c = let A = c.args in logged_there A.h (pdm_t1 ‼ 2) A.w A.on c.requires.1

pub oxygen-requires : goal.oxygen-requires
oxygen-requires c = let A = c.args in logged_at A.h A.z A.p c.requires.0

pub returns : goal.returns
unfolding told oxygen_plan ◌>>=◌
returns c =
    let A = c.args in
    species_law (λ (db : Float). oxygen_of A.h A.on A.z db A.zhm A.xmm A.flux) pdm_t1 pd_t1 _ _ _ _ _ _
    (oxygen_is A.h A.on A.z A.p A.t c.oxygen_root-q.result c.requires.0 _ A.zhm A.xmm A.flux c.requires.2
    (oxygen_root_is A.on A.h A.w _ A.flux A.xmm c.oxygen_root-q.result c.oxygen_root-q.ensures c.requires.1))
    c.oxygen.ensures c.exp-g.ensures c.pdm1-m.ensures c.pd1-c.ensures
