-- `anomalous_step` meets its contract.
use mathlib.Core.Path.{ap, sym, ◌∙◌}
use Rattle.plan.specs.Fields.{with_fields, fields_of}
use Rattle.stages.specs.Stages.{anomalous_plan}
use Rattle.state_steps.proofs.Laws.{step, anomalous_sets}
use Rattle.state_steps.proofs.anomalous_step.Goals as goal

pub returns : goal.returns
returns c = let A = c.args in
    step A.l (anomalous_plan A.sw A.h A.z) A.s c.densu_sets-s1.result c.anomalous_stage-o.result c.anomalous_stage-o.ensures
    (c.densu_sets-s1.ensures ∙ ap (with_fields A.s) (sym (anomalous_sets A.sw A.h A.z A.l (fields_of A.s))))
