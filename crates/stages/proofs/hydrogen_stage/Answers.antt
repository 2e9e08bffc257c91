-- `hydrogen_stage` meets its contract.
use lib.Ieee.{Float}
use Rattle.numbers.specs.Arithmetic.{◌‼◌}
use Rattle.plan.specs.Plan.{told, ◌>>=◌}
use Rattle.tables.specs.Tables.{pdm_t5, pd_t6}
use Rattle.species.specs.Species.{hydrogen_of}
use Rattle.species.specs.Rooted.{hydrogen_root_of, root_is, hydrogen_is}
use Rattle.species.proofs.Laws.{logged_at}
use Rattle.stages.specs.Stages.{hydrogen_plan}
use Rattle.stages.proofs.Laws.{logged_there, species_law}
use Rattle.stages.proofs.hydrogen_stage.Goals as goal

pub hydrogen_root-q-requires : goal.hydrogen_root-q-requires
hydrogen_root-q-requires c = let A = c.args in logged_there A.h (pdm_t5 ‼ 2) A.w A.on c.requires.1

pub hydrogen-requires : goal.hydrogen-requires
hydrogen-requires c = let A = c.args in logged_at A.h A.z A.p c.requires.0

pub returns : goal.returns
unfolding told hydrogen_plan ◌>>=◌ hydrogen_root_of
returns c =
    let A = c.args in
    species_law (λ (db : Float). hydrogen_of A.h A.on A.z A.b28 db A.zhm A.xmm) pdm_t5 pd_t6 _ _ _ _ _ _
    (hydrogen_is A.h A.on A.z A.p A.t c.hydrogen_root-q.result c.requires.0 A.b28 _ A.zhm A.xmm c.requires.2
    (root_is A.on A.h (pdm_t5 ‼ 2) A.w _ _ _ _ c.hydrogen_root-q.result c.hydrogen_root-q.ensures c.requires.1))
    c.hydrogen.ensures c.exp-g.ensures c.pdm5-m.ensures c.pd6-c.ensures
