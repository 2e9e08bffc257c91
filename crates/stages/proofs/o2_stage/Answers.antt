-- `o2_stage` meets its contract.
use lib.Ieee.{Float}
use Rattle.numbers.specs.Arithmetic.{◌‼◌}
use Rattle.plan.specs.Plan.{told, ◌>>=◌}
use Rattle.species.specs.Species.{o2_of}
use Rattle.species.specs.Rooted.{o2_root_of, root_is, o2_is}
use Rattle.stages.specs.Stages.{o2_plan}
use Rattle.tables.specs.Tables.{pdm_t3, pd_t4}
use Rattle.species.proofs.Laws.{logged_at}
use Rattle.stages.proofs.Laws.{logged_there, species_law}
use Rattle.stages.proofs.o2_stage.Goals as goal

pub o2_root-q-requires : goal.o2_root-q-requires
o2_root-q-requires c = let A = c.args in logged_there A.h (pdm_t3 ‼ 2) A.w A.on c.requires.1

pub o2-requires : goal.o2-requires
o2-requires c = let A = c.args in logged_at A.h A.z A.p c.requires.0

pub returns : goal.returns
unfolding told o2_plan ◌>>=◌ o2_root_of
returns c =
    let A = c.args in
    species_law (λ (db : Float). o2_of A.h (A.sw ‼ 15) A.on A.z A.b28 db A.zhm A.xmm A.flux) pdm_t3 pd_t4 _ _ _ _ _ _
    (o2_is A.h A.on A.z A.p A.t c.o2_root-q.result c.requires.0 (A.sw ‼ 15) A.b28 _ A.zhm A.xmm A.flux _ c.requires.2
    (root_is A.on A.h (pdm_t3 ‼ 2) A.w _ _ _ _ c.o2_root-q.result c.o2_root-q.ensures c.requires.1) (rw (c.pdm3-m.ensures, c.pdl1-k.ensures)))
    c.o2.ensures c.exp-g.ensures c.pdm3-m.ensures c.pd4-c.ensures
