-- `species_stage` meets its contract.
use mathlib.Core.Path.{refl}
use Rattle.numbers.specs.Arithmetic.{◌‼◌}
use Rattle.mixing_limits.specs.Limits.{oxygens_mixed, some_mixed}
use Rattle.mixing_limits.proofs.Some.{o_there, o2_there, ar_there, n_there, four_some, he_some, h_some}
use Rattle.tables.specs.Tables.{pdm_t0, pdm_t1, pdm_t3, pdm_t4, pdm_t5, pdm_t6}
use Rattle.thermosphere.proofs.Laws.{species_law, stage_ready, o2_too, argon_too, nitrogen_too}
use Rattle.thermosphere.proofs.species_stage.Goals as goal

pub turbopauses_of-w-requires : goal.turbopauses_of-w-requires
turbopauses_of-w-requires c = c.requires.0

pub helium_stage-he-requires : goal.helium_stage-he-requires
helium_stage-he-requires c = let A = c.args in
    stage_ready A.h A.z A.p c.turbopauses_of-w.result.he A.t A.m.he A.m.he (some_mixed A.m) (pdm_t0 ‼ 2) (pdm_t0 ‼ 2) A.xmm
    (λ o. o) (he_some A.m) c.requires.1 c.turbopauses_of-w.ensures.0 refl c.requires.2

pub oxygen_stage-o-requires : goal.oxygen_stage-o-requires
oxygen_stage-o-requires c = let A = c.args in
    stage_ready A.h A.z A.p c.turbopauses_of-w.result.o A.t A.m.o (oxygens_mixed A.m) (some_mixed A.m) (pdm_t1 ‼ 2) (pdm_t1 ‼ 2) A.xmm
    (o_there A.m) (λ o. four_some A.m (o_there A.m o)) c.requires.1 c.turbopauses_of-w.ensures.1 refl c.requires.2

pub o2_stage-o2-requires : goal.o2_stage-o2-requires
o2_stage-o2-requires c = let A = c.args in
    stage_ready A.h A.z A.p c.turbopauses_of-w.result.o A.t A.m.o2 (oxygens_mixed A.m) (some_mixed A.m) (pdm_t1 ‼ 2) (pdm_t3 ‼ 2) A.xmm
    (o2_there A.m) (λ o. four_some A.m (o2_there A.m o)) c.requires.1 c.turbopauses_of-w.ensures.1 o2_too c.requires.2

pub argon_stage-ar-requires : goal.argon_stage-ar-requires
argon_stage-ar-requires c = let A = c.args in
    stage_ready A.h A.z A.p c.turbopauses_of-w.result.o A.t A.m.ar (oxygens_mixed A.m) (some_mixed A.m) (pdm_t1 ‼ 2) (pdm_t4 ‼ 2) A.xmm
    (ar_there A.m) (λ o. four_some A.m (ar_there A.m o)) c.requires.1 c.turbopauses_of-w.ensures.1 argon_too c.requires.2

pub hydrogen_stage-hy-requires : goal.hydrogen_stage-hy-requires
hydrogen_stage-hy-requires c = let A = c.args in
    stage_ready A.h A.z A.p c.turbopauses_of-w.result.h A.t A.m.h A.m.h (some_mixed A.m) (pdm_t5 ‼ 2) (pdm_t5 ‼ 2) A.xmm
    (λ o. o) (h_some A.m) c.requires.1 c.turbopauses_of-w.ensures.2 refl c.requires.2

pub nitrogen_stage-n-requires : goal.nitrogen_stage-n-requires
nitrogen_stage-n-requires c = let A = c.args in
    stage_ready A.h A.z A.p c.turbopauses_of-w.result.o A.t A.m.n (oxygens_mixed A.m) (some_mixed A.m) (pdm_t1 ‼ 2) (pdm_t6 ‼ 2) A.xmm
    (n_there A.m) (λ o. four_some A.m (n_there A.m o)) c.requires.1 c.turbopauses_of-w.ensures.1 nitrogen_too c.requires.2

pub returns : goal.returns
returns c = let A = c.args in
    species_law A.sw A.h A.m A.z A.b28 A.flux A.xmm A.l
    c.nitrogen_stage-n.result
    c.hydrogen_stage-hy.result
    c.argon_stage-ar.result
    c.o2_stage-o2.result
    c.oxygen_stage-o.result
    c.helium_stage-he.result
    c.pdl1-d.result
    c.pdm2-a.result
    c.nitrogen_stage-n.ensures
    c.hydrogen_stage-hy.ensures
    c.argon_stage-ar.ensures
    c.o2_stage-o2.ensures
    c.oxygen_stage-o.ensures
    c.helium_stage-he.ensures
    c.pdl1-d.ensures
    c.pdm2-a.ensures
