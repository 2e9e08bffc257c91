-- `gtd7` meets its contract.
use Rattle.model_state.proofs.Laws.{gtd7_steps_above, gtd7_steps_below}
use Rattle.model_state.proofs.gtd7.Goals as goal

pub returns-then-alt : goal.returns-then-alt
returns-then-alt c = let A = c.args in
    gtd7_steps_above A.sw A.x A.alt A.l A.s c.set_gravity-s1.result c.gts7-us.result.state c.above-a.result c.gts7-us.result.value c.pick-altt.result
    c.above-a.ensures c.gts7-us.ensures c.pick-altt.ensures c.set_gravity-s1.ensures c.if-alt.true

pub returns : goal.returns
returns c = let A = c.args in
    gtd7_steps_below A.sw A.x A.alt A.l A.s c.set_gravity-s1.result c.gts7-us.result.state c.meso_step-ms.result.state c.lower_step-ns.result.state c.set_dd-s5.result c.below-b.result c.lower_step-ns.result.value c.meso_step-ms.result.value c.gts7-us.result.value c.pick-altt.result
    c.set_dd-s5.ensures c.below-b.ensures c.lower_step-ns.ensures c.meso_step-ms.ensures c.gts7-us.ensures c.pick-altt.ensures c.set_gravity-s1.ensures c.if-alt.false
