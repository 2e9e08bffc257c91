-- `species_step` meets its contract.
use mathlib.Core.Path.{refl}
use Rattle.numbers.specs.Arithmetic.{◌‼◌}
use Rattle.mixing_limits.specs.Limits.{oxygens_mixed, some_mixed}
use Rattle.mixing_limits.proofs.Some.{o_there, o2_there, ar_there, n_there, four_some, he_some, h_some}
use Rattle.tables.specs.Tables.{pdm_t0, pdm_t1, pdm_t3, pdm_t4, pdm_t5, pdm_t6}
use Rattle.thermosphere.proofs.Laws.{stage_ready, o2_too, argon_too, nitrogen_too}
use Rattle.model_state.proofs.Laws.{species_steps}
use Rattle.model_state.proofs.species_step.Goals as goal

pub turbopauses_of-w-requires : goal.turbopauses_of-w-requires
turbopauses_of-w-requires c = c.requires.0

pub helium_step-he-requires : goal.helium_step-he-requires
helium_step-he-requires c = let A = c.args in
    stage_ready A.h A.z A.p c.turbopauses_of-w.result.he A.t A.m.he A.m.he (some_mixed A.m) (pdm_t0 ‼ 2) (pdm_t0 ‼ 2) A.xmm
    (λ o. o) (he_some A.m) c.requires.1 c.turbopauses_of-w.ensures.0 refl c.requires.2

pub oxygen_step-o-requires : goal.oxygen_step-o-requires
oxygen_step-o-requires c = let A = c.args in
    stage_ready A.h A.z A.p c.turbopauses_of-w.result.o A.t A.m.o (oxygens_mixed A.m) (some_mixed A.m) (pdm_t1 ‼ 2) (pdm_t1 ‼ 2) A.xmm
    (o_there A.m) (λ o. four_some A.m (o_there A.m o)) c.requires.1 c.turbopauses_of-w.ensures.1 refl c.requires.2

pub o2_step-o2-requires : goal.o2_step-o2-requires
o2_step-o2-requires c = let A = c.args in
    stage_ready A.h A.z A.p c.turbopauses_of-w.result.o A.t A.m.o2 (oxygens_mixed A.m) (some_mixed A.m) (pdm_t1 ‼ 2) (pdm_t3 ‼ 2) A.xmm
    (o2_there A.m) (λ o. four_some A.m (o2_there A.m o)) c.requires.1 c.turbopauses_of-w.ensures.1 o2_too c.requires.2

pub argon_step-ar-requires : goal.argon_step-ar-requires
argon_step-ar-requires c = let A = c.args in
    stage_ready A.h A.z A.p c.turbopauses_of-w.result.o A.t A.m.ar (oxygens_mixed A.m) (some_mixed A.m) (pdm_t1 ‼ 2) (pdm_t4 ‼ 2) A.xmm
    (ar_there A.m) (λ o. four_some A.m (ar_there A.m o)) c.requires.1 c.turbopauses_of-w.ensures.1 argon_too c.requires.2

pub hydrogen_step-hy-requires : goal.hydrogen_step-hy-requires
hydrogen_step-hy-requires c = let A = c.args in
    stage_ready A.h A.z A.p c.turbopauses_of-w.result.h A.t A.m.h A.m.h (some_mixed A.m) (pdm_t5 ‼ 2) (pdm_t5 ‼ 2) A.xmm
    (λ o. o) (h_some A.m) c.requires.1 c.turbopauses_of-w.ensures.2 refl c.requires.2

pub nitrogen_step-n-requires : goal.nitrogen_step-n-requires
nitrogen_step-n-requires c = let A = c.args in
    stage_ready A.h A.z A.p c.turbopauses_of-w.result.o A.t A.m.n (oxygens_mixed A.m) (some_mixed A.m) (pdm_t1 ‼ 2) (pdm_t6 ‼ 2) A.xmm
    (n_there A.m) (λ o. four_some A.m (n_there A.m o)) c.requires.1 c.turbopauses_of-w.ensures.1 nitrogen_too c.requires.2

pub returns : goal.returns
returns c = let A = c.args in
    species_steps A.sw A.h A.m A.z A.b28 A.flux A.xmm A.l A.s
    c.helium_step-he.result.state c.oxygen_step-o.result.state c.o2_step-o2.result.state c.argon_step-ar.result.state c.hydrogen_step-hy.result.state c.nitrogen_step-n.result.state
    c.helium_step-he.result.value c.oxygen_step-o.result.value c.o2_step-o2.result.value c.argon_step-ar.result.value c.hydrogen_step-hy.result.value c.nitrogen_step-n.result.value
    c.pdl1-d.result c.pdm2-a.result
    c.nitrogen_step-n.ensures c.hydrogen_step-hy.ensures c.argon_step-ar.ensures c.o2_step-o2.ensures c.oxygen_step-o.ensures c.helium_step-he.ensures c.pdl1-d.ensures c.pdm2-a.ensures
