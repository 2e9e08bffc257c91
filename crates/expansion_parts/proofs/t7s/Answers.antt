-- `t7s` meets its contract.
use Rattle.expansion_parts.specs.ExpansionParts.{t7s_of}
use Rattle.expansion_parts.proofs.t7s.Goals as goal

pub returns-then-sw8 : goal.returns-then-sw8
unfolding t7s_of
returns-then-sw8 c = simp (← c.semidiurnal_s.ensures) (simp c.if-sw8.true)

pub returns : goal.returns
unfolding t7s_of
returns c = simp c.if-sw8.false
