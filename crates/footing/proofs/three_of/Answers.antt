-- `three_of` meets its contract.
use mathlib.Core.Path.{◌∙◌}
use Rattle.numbers.specs.Arithmetic.{◌‼◌}
use Rattle.numbers.specs.Literals.{72·5}
use Rattle.mixing_limits.specs.Limits.{oxygens_mixed, some_mixed}
use Rattle.mixing_limits.proofs.Some.{o2_there, ar_there, four_some, he_some}
use Rattle.tables.specs.Tables.{pdm_t0, pdm_t1, pdm_t3, pdm_t4}
use Rattle.thermosphere.proofs.Laws.{stage_ready, o2_too, argon_too}
use Rattle.footing.proofs.Laws.{third, three_law}
use Rattle.footing.proofs.three_of.Goals as goal

pub helium_stage-he-requires : goal.helium_stage-he-requires
helium_stage-he-requires c = let A = c.args in
    stage_ready A.h 72·5 A.p c.turbopause-w.result A.t A.m.he A.m.he (some_mixed A.m) (c.pdm0-m0.result ‼ 2) (pdm_t0 ‼ 2) A.xmm
    (λ o. o) (he_some A.m) c.requires.1 c.turbopause-w.ensures (third _ pdm_t0 c.pdm0-m0.ensures) c.requires.2

pub o2_stage-o2-requires : goal.o2_stage-o2-requires
o2_stage-o2-requires c = let A = c.args in
    stage_ready A.h 72·5 A.p c.turbopause-y.result A.t A.m.o2 (oxygens_mixed A.m) (some_mixed A.m) (c.pdm1-m1.result ‼ 2) (pdm_t3 ‼ 2) A.xmm
    (o2_there A.m) (λ o. four_some A.m (o2_there A.m o)) c.requires.1 (λ o. c.turbopause-y.ensures (c.oxygens_mixed-four.ensures ∙ o)) (third _ pdm_t1 c.pdm1-m1.ensures ∙ o2_too) c.requires.2

pub argon_stage-ar-requires : goal.argon_stage-ar-requires
argon_stage-ar-requires c = let A = c.args in
    stage_ready A.h 72·5 A.p c.turbopause-y.result A.t A.m.ar (oxygens_mixed A.m) (some_mixed A.m) (c.pdm1-m1.result ‼ 2) (pdm_t4 ‼ 2) A.xmm
    (ar_there A.m) (λ o. four_some A.m (ar_there A.m o)) c.requires.1 (λ o. c.turbopause-y.ensures (c.oxygens_mixed-four.ensures ∙ o)) (third _ pdm_t1 c.pdm1-m1.ensures ∙ argon_too) c.requires.2

pub returns : goal.returns
returns c = let A = c.args in
    three_law A.sw A.h A.m A.b28 A.flux A.xmm A.l
    c.argon_stage-ar.result c.o2_stage-o2.result c.helium_stage-he.result c.pdl1-d.result c.pdm2-a.result
    c.argon_stage-ar.ensures c.o2_stage-o2.ensures c.helium_stage-he.ensures c.pdl1-d.ensures c.pdm2-a.ensures
