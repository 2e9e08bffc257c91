-- `lower_step` meets its contract.
use Rattle.model_state.proofs.Laws.{lower_step_none, lower_step}
use Rattle.model_state.proofs.lower_step.Goals as goal

pub returns-then-not-alt : goal.returns-then-not-alt
returns-then-not-alt c = let A = c.args in lower_step_none A.sw A.alt A.m A.l A.s c.lower_stage-w.result c.lower_stage-w.ensures c.if-not-alt.true-raw

pub returns : goal.returns
returns c = let A = c.args in lower_step A.sw A.alt A.m A.l A.s c.lower_stage-w.result c.lower_stage-w.ensures c.set_tn3-s1.result c.set_tn3-s1.ensures c.if-not-alt.false-raw
