-- `nitrogen_step` meets its contract.
use mathlib.Core.Path.{ap}
use mathlib.Core.List.{List}
use lib.Ieee.{Float}
use Rattle.numbers.specs.Arithmetic.{◌‼◌}
use Rattle.plan.specs.Fields.{set_dm14}
use Rattle.species.specs.declared.Mixture.{Mixture}
use Rattle.stages.specs.Stages.{nitrogen_plan}
use Rattle.tables.specs.Tables.{pdm_t6}
use Rattle.state_steps.proofs.Laws.{species_step, nitrogen_sets}
use Rattle.state_steps.proofs.nitrogen_step.Goals as goal

pub nitrogen_stage-x-requires : goal.nitrogen_stage-x-requires
nitrogen_stage-x-requires c = c.requires

pub returns : goal.returns
returns c = let A = c.args in
    species_step A.l (nitrogen_plan A.sw A.h A.on A.z A.b28 A.zhm A.xmm) A.h A.z (pdm_t6 ‼ 2) c.pdm6-m.result
    A.on (λ (x : Mixture). set_dm14 x.dm) A.s c.species_sets-s1.result c.set_dm14-s2.result c.nitrogen_stage-x.result
    (nitrogen_sets A.sw A.h A.on A.z A.b28 A.zhm A.xmm A.l) c.nitrogen_stage-x.ensures c.set_dm14-s2.ensures c.species_sets-s1.ensures (ap (λ (m : List Float). m ‼ 2) c.pdm6-m.ensures)
