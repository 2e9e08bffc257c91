-- `helium_stage` meets its contract.
use lib.Ieee.{Float}
use Rattle.numbers.specs.Arithmetic.{◌‼◌}
use Rattle.plan.specs.Plan.{told, ◌>>=◌}
use Rattle.tables.specs.Tables.{pdm_t0, pd_t0}
use Rattle.species.specs.Species.{helium_of}
use Rattle.species.specs.Rooted.{helium_root_of, root_is, helium_is}
use Rattle.species.proofs.Laws.{logged_at}
use Rattle.stages.specs.Stages.{helium_plan}
use Rattle.stages.proofs.Laws.{logged_there, species_law}
use Rattle.stages.proofs.helium_stage.Goals as goal

pub helium_root-q-requires : goal.helium_root-q-requires
helium_root-q-requires c = let A = c.args in logged_there A.h (pdm_t0 ‼ 2) A.w A.on c.requires.1

pub helium-requires : goal.helium-requires
helium-requires c = let A = c.args in logged_at A.h A.z A.p c.requires.0

pub returns : goal.returns
unfolding told helium_plan ◌>>=◌ helium_root_of
returns c =
    let A = c.args in
    species_law (λ (db : Float). helium_of A.h A.on A.z A.b28 db A.zhm A.xmm) pdm_t0 pd_t0 _ _ _ _ _ _
    (helium_is A.h A.on A.z A.p A.t c.helium_root-q.result c.requires.0 A.b28 _ A.zhm A.xmm c.requires.2
    (root_is A.on A.h (pdm_t0 ‼ 2) A.w _ _ _ _ c.helium_root-q.result c.helium_root-q.ensures c.requires.1))
    c.helium.ensures c.exp-g.ensures c.pdm0-m.ensures c.pd0-c.ensures
