-- `argon_step` meets its contract.
use mathlib.Core.Path.{ap}
use mathlib.Core.List.{List}
use lib.Ieee.{Float}
use Rattle.numbers.specs.Arithmetic.{◌‼◌}
use Rattle.plan.specs.Fields.{set_dm40}
use Rattle.species.specs.declared.Mixture.{Mixture}
use Rattle.stages.specs.Stages.{argon_plan}
use Rattle.tables.specs.Tables.{pdm_t4}
use Rattle.state_steps.proofs.Laws.{species_step, argon_sets}
use Rattle.state_steps.proofs.argon_step.Goals as goal

pub argon_stage-x-requires : goal.argon_stage-x-requires
argon_stage-x-requires c = c.requires

pub returns : goal.returns
returns c = let A = c.args in
    species_step A.l (argon_plan A.sw A.h A.on A.z A.b28 A.zhm A.xmm) A.h A.z (pdm_t4 ‼ 2) c.pdm4-m.result
    A.on (λ (x : Mixture). set_dm40 x.dm) A.s c.species_sets-s1.result c.set_dm40-s2.result c.argon_stage-x.result
    (argon_sets A.sw A.h A.on A.z A.b28 A.zhm A.xmm A.l) c.argon_stage-x.ensures c.set_dm40-s2.ensures c.species_sets-s1.ensures (ap (λ (m : List Float). m ‼ 2) c.pdm4-m.ensures)
