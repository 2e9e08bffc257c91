-- `six_alone` meets its contract.
use Rattle.numbers.specs.Arithmetic.{◌‼◌}
use Rattle.mixing_limits.specs.Limits.{some_mixed}
use Rattle.mixing_limits.proofs.Some.{o_there, o2_there, ar_there, n_there, four_some, he_some, h_some}
use Rattle.tables.specs.Tables.{pdm_t0, pdm_t1, pdm_t3, pdm_t4, pdm_t5, pdm_t6}
use Rattle.unmixed.proofs.Laws.{idle, six_law}
use Rattle.unmixed.proofs.six_alone.Goals as goal

pub helium_stage-he-requires : goal.helium_stage-he-requires
helium_stage-he-requires c =
    let A = c.args in
    idle A.h A.z A.p A.p _ _ (pdm_t0 ‼ 2) A.m.he (some_mixed A.m) c.requires.0 c.requires.1 (he_some A.m)

pub oxygen_stage-o-requires : goal.oxygen_stage-o-requires
oxygen_stage-o-requires c =
    let A = c.args in
    idle A.h A.z A.p A.p _ _ (pdm_t1 ‼ 2) A.m.o (some_mixed A.m) c.requires.0 c.requires.1 (λ o. four_some A.m (o_there A.m o))

pub o2_stage-o2-requires : goal.o2_stage-o2-requires
o2_stage-o2-requires c =
    let A = c.args in
    idle A.h A.z A.p A.p _ _ (pdm_t3 ‼ 2) A.m.o2 (some_mixed A.m) c.requires.0 c.requires.1 (λ o. four_some A.m (o2_there A.m o))

pub argon_stage-ar-requires : goal.argon_stage-ar-requires
argon_stage-ar-requires c =
    let A = c.args in
    idle A.h A.z A.p A.p _ _ (pdm_t4 ‼ 2) A.m.ar (some_mixed A.m) c.requires.0 c.requires.1 (λ o. four_some A.m (ar_there A.m o))

pub hydrogen_stage-hy-requires : goal.hydrogen_stage-hy-requires
hydrogen_stage-hy-requires c =
    let A = c.args in
    idle A.h A.z A.p A.p _ _ (pdm_t5 ‼ 2) A.m.h (some_mixed A.m) c.requires.0 c.requires.1 (h_some A.m)

pub nitrogen_stage-n-requires : goal.nitrogen_stage-n-requires
nitrogen_stage-n-requires c =
    let A = c.args in
    idle A.h A.z A.p A.p _ _ (pdm_t6 ‼ 2) A.m.n (some_mixed A.m) c.requires.0 c.requires.1 (λ o. four_some A.m (n_there A.m o))

pub returns : goal.returns
returns c =
    let A = c.args in
    six_law A.sw A.h A.m A.z _ A.flux A.xmm A.l
    c.nitrogen_stage-n.result c.hydrogen_stage-hy.result c.argon_stage-ar.result c.o2_stage-o2.result c.oxygen_stage-o.result c.helium_stage-he.result
    c.pdl1-d.result c.pdm2-a.result c.requires.1
    c.nitrogen_stage-n.ensures c.hydrogen_stage-hy.ensures c.argon_stage-ar.ensures c.o2_stage-o2.ensures c.oxygen_stage-o.ensures c.helium_stage-he.ensures
    c.pdl1-d.ensures c.pdm2-a.ensures
