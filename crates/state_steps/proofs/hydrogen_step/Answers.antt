-- `hydrogen_step` meets its contract.
use mathlib.Core.Path.{ap}
use mathlib.Core.List.{List}
use lib.Ieee.{Float}
use Rattle.numbers.specs.Arithmetic.{◌‼◌}
use Rattle.plan.specs.Fields.{set_dm01}
use Rattle.species.specs.declared.Mixture.{Mixture}
use Rattle.stages.specs.Stages.{hydrogen_plan}
use Rattle.tables.specs.Tables.{pdm_t5}
use Rattle.state_steps.proofs.Laws.{species_step, hydrogen_sets}
use Rattle.state_steps.proofs.hydrogen_step.Goals as goal

pub hydrogen_stage-x-requires : goal.hydrogen_stage-x-requires
hydrogen_stage-x-requires c = c.requires

pub returns : goal.returns
returns c = let A = c.args in
    species_step A.l (hydrogen_plan A.sw A.h A.on A.z A.b28 A.zhm A.xmm) A.h A.z (pdm_t5 ‼ 2) c.pdm5-m.result
    A.on (λ (x : Mixture). set_dm01 x.dm) A.s c.species_sets-s1.result c.set_dm01-s2.result c.hydrogen_stage-x.result
    (hydrogen_sets A.sw A.h A.on A.z A.b28 A.zhm A.xmm A.l) c.hydrogen_stage-x.ensures c.set_dm01-s2.ensures c.species_sets-s1.ensures (ap (λ (m : List Float). m ‼ 2) c.pdm5-m.ensures)
