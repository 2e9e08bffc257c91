-- `n2_stage` meets its contract.
use Rattle.numbers.specs.Arithmetic.{◌⊗◌, ◌‼◌}
use Rattle.tables.specs.Tables.{pdm_t2}
use Rattle.species.proofs.Laws.{logged_at}
use Rattle.stages.proofs.Laws.{n2_law}
use Rattle.stages.proofs.n2_stage.Goals as goal

pub n2_root-q-requires : goal.n2_root-q-requires
n2_root-q-requires c = let A = c.args in
    logged_at A.h (pdm_t2 ‼ 2 ⊗ A.zhf) A.w c.requires.1

pub n2-x-requires : goal.n2-x-requires
n2-x-requires c = let A = c.args in logged_at A.h A.z A.p c.requires.0

pub returns : goal.returns
returns c = let A = c.args in
    n2_law A.sw A.h A.on A.z A.p A.w A.t A.zhf A.xmm A.l
    c.n2-x.result c.n2_root-q.result c.exp-g.result c.pdm2-m.result c.pd2-c.result
    c.n2-x.ensures c.n2_root-q.ensures c.exp-g.ensures c.pdm2-m.ensures c.pd2-c.ensures
    c.requires
