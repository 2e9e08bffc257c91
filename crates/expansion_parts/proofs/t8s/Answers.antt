-- `t8s` meets its contract.
use Rattle.expansion_parts.specs.ExpansionParts.{t8s_of}
use Rattle.expansion_parts.proofs.t8s.Goals as goal

pub returns-then-not-v : goal.returns-then-not-v
unfolding t8s_of
returns-then-not-v c = simp c.if-not-v.true-raw

pub returns-then-v : goal.returns-then-v
unfolding t8s_of
returns-then-v c = simp (← c.history_s.ensures) (simp (c.if-v.true, c.if-not-v.false-raw))

pub returns-then-v-2 : goal.returns-then-v-2
unfolding t8s_of
returns-then-v-2 c = simp (← c.daily_s.ensures) (simp (c.if-v-2.true, c.if-v.false, c.if-not-v.false-raw))

pub returns : goal.returns
unfolding t8s_of
returns c = simp (c.if-v-2.false, c.if-v.false, c.if-not-v.false-raw)
