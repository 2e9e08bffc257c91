-- `oxygen_step` meets its contract.
use mathlib.Core.Path.{ap}
use mathlib.Core.List.{List}
use lib.Ieee.{Float}
use Rattle.numbers.specs.Arithmetic.{◌‼◌}
use Rattle.plan.specs.Fields.{set_dm16}
use Rattle.species.specs.declared.Mixture.{Mixture}
use Rattle.stages.specs.Stages.{oxygen_plan}
use Rattle.tables.specs.Tables.{pdm_t1}
use Rattle.state_steps.proofs.Laws.{species_step, oxygen_sets}
use Rattle.state_steps.proofs.oxygen_step.Goals as goal

pub oxygen_stage-x-requires : goal.oxygen_stage-x-requires
oxygen_stage-x-requires c = c.requires

pub returns : goal.returns
returns c = let A = c.args in
    species_step A.l (oxygen_plan A.sw A.h A.on A.z A.zhm A.xmm A.flux) A.h A.z (pdm_t1 ‼ 2) c.pdm1-m.result
    A.on (λ (x : Mixture). set_dm16 x.dm) A.s c.species_sets-s1.result c.set_dm16-s2.result c.oxygen_stage-x.result
    (oxygen_sets A.sw A.h A.on A.z A.zhm A.xmm A.flux A.l) c.oxygen_stage-x.ensures c.set_dm16-s2.ensures c.species_sets-s1.ensures (ap (λ (m : List Float). m ‼ 2) c.pdm1-m.ensures)
