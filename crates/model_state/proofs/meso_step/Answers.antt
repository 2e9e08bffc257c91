-- `meso_step` meets its contract.
use Rattle.model_state.proofs.Laws.{meso_step}
use Rattle.model_state.proofs.meso_step.Goals as goal

pub returns : goal.returns
returns c = let A = c.args in meso_step A.sw A.u A.l A.s c.set_tn2-s1.result c.set_top3-s2.result c.meso_stage-m.result c.set_top3-s2.ensures c.set_tn2-s1.ensures c.meso_stage-m.ensures
