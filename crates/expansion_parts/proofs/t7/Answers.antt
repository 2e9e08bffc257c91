-- `t7` meets its contract.
use Rattle.expansion_parts.specs.ExpansionParts.{t7_of}
use Rattle.expansion_parts.proofs.t7.Goals as goal

pub returns-then-sw8 : goal.returns-then-sw8
unfolding t7_of
returns-then-sw8 c = simp (← c.semidiurnal.ensures) (simp c.if-sw8.true)

pub returns : goal.returns
unfolding t7_of
returns c = simp c.if-sw8.false
