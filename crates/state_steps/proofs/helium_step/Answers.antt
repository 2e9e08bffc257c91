-- `helium_step` meets its contract.
use mathlib.Core.Path.{ap}
use mathlib.Core.List.{List}
use lib.Ieee.{Float}
use Rattle.numbers.specs.Arithmetic.{◌‼◌}
use Rattle.plan.specs.Fields.{set_dm04}
use Rattle.species.specs.declared.Mixture.{Mixture}
use Rattle.stages.specs.Stages.{helium_plan}
use Rattle.tables.specs.Tables.{pdm_t0}
use Rattle.state_steps.proofs.Laws.{species_step, helium_sets}
use Rattle.state_steps.proofs.helium_step.Goals as goal

pub helium_stage-x-requires : goal.helium_stage-x-requires
helium_stage-x-requires c = c.requires

pub returns : goal.returns
returns c = let A = c.args in
    species_step A.l (helium_plan A.sw A.h A.on A.z A.b28 A.zhm A.xmm) A.h A.z (pdm_t0 ‼ 2) c.pdm0-m.result
    A.on (λ (x : Mixture). set_dm04 x.dm) A.s c.species_sets-s1.result c.set_dm04-s2.result c.helium_stage-x.result
    (helium_sets A.sw A.h A.on A.z A.b28 A.zhm A.xmm A.l) c.helium_stage-x.ensures c.set_dm04-s2.ensures c.species_sets-s1.ensures (ap (λ (m : List Float). m ‼ 2) c.pdm0-m.ensures)
