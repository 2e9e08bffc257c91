-- `t6` meets its contract.
use Rattle.expansion_parts.specs.ExpansionParts.{t6_of}
use Rattle.expansion_parts.proofs.t6.Goals as goal

pub returns-then-sw7 : goal.returns-then-sw7
unfolding t6_of
returns-then-sw7 c = simp (← c.diurnal.ensures) (simp c.if-sw7.true)

pub returns : goal.returns
unfolding t6_of
returns c = simp c.if-sw7.false
