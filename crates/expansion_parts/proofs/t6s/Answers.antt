-- `t6s` meets its contract.
use Rattle.expansion_parts.specs.ExpansionParts.{t6s_of}
use Rattle.expansion_parts.proofs.t6s.Goals as goal

pub returns-then-sw7 : goal.returns-then-sw7
unfolding t6s_of
returns-then-sw7 c = simp (← c.diurnal_s.ensures) (simp c.if-sw7.true)

pub returns : goal.returns
unfolding t6s_of
returns c = simp c.if-sw7.false
