-- `o2_step` meets its contract.
use mathlib.Core.Path.{ap}
use mathlib.Core.List.{List}
use lib.Ieee.{Float}
use Rattle.numbers.specs.Arithmetic.{◌‼◌}
use Rattle.plan.specs.Fields.{set_dm32}
use Rattle.species.specs.declared.Mixture.{Mixture}
use Rattle.stages.specs.Stages.{o2_plan}
use Rattle.tables.specs.Tables.{pdm_t3}
use Rattle.state_steps.proofs.Laws.{species_step, o2_sets}
use Rattle.state_steps.proofs.o2_step.Goals as goal

pub o2_stage-x-requires : goal.o2_stage-x-requires
o2_stage-x-requires c = c.requires

pub returns : goal.returns
returns c = let A = c.args in
    species_step A.l (o2_plan A.sw A.h A.on A.z A.b28 A.zhm A.xmm A.flux) A.h A.z (pdm_t3 ‼ 2) c.pdm3-m.result
    A.on (λ (x : Mixture). set_dm32 x.dm) A.s c.species_sets-s1.result c.set_dm32-s2.result c.o2_stage-x.result
    (o2_sets A.sw A.h A.on A.z A.b28 A.zhm A.xmm A.flux A.l) c.o2_stage-x.ensures c.set_dm32-s2.ensures c.species_sets-s1.ensures (ap (λ (m : List Float). m ‼ 2) c.pdm3-m.ensures)
