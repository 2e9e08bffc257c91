-- `nitrogen_stage` meets its contract.
use lib.Ieee.{Float}
use Rattle.numbers.specs.Arithmetic.{◌‼◌}
use Rattle.plan.specs.Plan.{told, ◌>>=◌}
use Rattle.tables.specs.Tables.{pdm_t6, pd_t7}
use Rattle.species.specs.Species.{nitrogen_of}
use Rattle.species.specs.Rooted.{nitrogen_root_of, root_is, nitrogen_is}
use Rattle.species.proofs.Laws.{logged_at}
use Rattle.stages.specs.Stages.{nitrogen_plan}
use Rattle.stages.proofs.Laws.{logged_there, species_law}
use Rattle.stages.proofs.nitrogen_stage.Goals as goal

pub nitrogen_root-q-requires : goal.nitrogen_root-q-requires
nitrogen_root-q-requires c = let A = c.args in logged_there A.h (pdm_t6 ‼ 2) A.w A.on c.requires.1

pub nitrogen-requires : goal.nitrogen-requires
nitrogen-requires c = let A = c.args in logged_at A.h A.z A.p c.requires.0

pub returns : goal.returns
unfolding told nitrogen_plan ◌>>=◌ nitrogen_root_of
returns c =
    let A = c.args in
    species_law (λ (db : Float). nitrogen_of A.h A.on A.z A.b28 db A.zhm A.xmm) pdm_t6 pd_t7 _ _ _ _ _ _
    (nitrogen_is A.h A.on A.z A.p A.t c.nitrogen_root-q.result c.requires.0 A.b28 _ A.zhm A.xmm c.requires.2
    (root_is A.on A.h (pdm_t6 ‼ 2) A.w _ _ _ _ c.nitrogen_root-q.result c.nitrogen_root-q.ensures c.requires.1))
    c.nitrogen.ensures c.exp-g.ensures c.pdm6-m.ensures c.pd7-c.ensures
