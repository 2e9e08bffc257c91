-- `argon_stage` meets its contract.
use lib.Ieee.{Float}
use Rattle.numbers.specs.Arithmetic.{◌‼◌}
use Rattle.plan.specs.Plan.{told, ◌>>=◌}
use Rattle.tables.specs.Tables.{pdm_t4, pd_t5}
use Rattle.species.specs.Species.{argon_of}
use Rattle.species.specs.Rooted.{argon_root_of, root_is, argon_is}
use Rattle.species.proofs.Laws.{logged_at}
use Rattle.stages.specs.Stages.{argon_plan}
use Rattle.stages.proofs.Laws.{logged_there, species_law}
use Rattle.stages.proofs.argon_stage.Goals as goal

pub argon_root-q-requires : goal.argon_root-q-requires
argon_root-q-requires c = let A = c.args in logged_there A.h (pdm_t4 ‼ 2) A.w A.on c.requires.1

pub argon-requires : goal.argon-requires
argon-requires c = let A = c.args in logged_at A.h A.z A.p c.requires.0

pub returns : goal.returns
unfolding told argon_plan ◌>>=◌ argon_root_of
returns c =
    let A = c.args in
    species_law (λ (db : Float). argon_of A.h A.on A.z A.b28 db A.zhm A.xmm) pdm_t4 pd_t5 _ _ _ _ _ _
    (argon_is A.h A.on A.z A.p A.t c.argon_root-q.result c.requires.0 A.b28 _ A.zhm A.xmm c.requires.2
    (root_is A.on A.h (pdm_t4 ‼ 2) A.w _ _ _ _ c.argon_root-q.result c.argon_root-q.ensures c.requires.1))
    c.argon.ensures c.exp-g.ensures c.pdm4-m.ensures c.pd5-c.ensures
