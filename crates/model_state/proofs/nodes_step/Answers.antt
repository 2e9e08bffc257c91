-- `nodes_step` meets its contract.
use Rattle.model_state.proofs.Laws.{nodes_step}
use Rattle.model_state.proofs.nodes_step.Goals as goal

pub returns : goal.returns
returns c = let A = c.args in nodes_step A.sw A.z A.l A.s c.set_nodes1-s1.result c.nodes_stage-n.result c.set_nodes1-s1.ensures c.nodes_stage-n.ensures
