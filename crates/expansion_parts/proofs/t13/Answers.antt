-- `t13` meets its contract.
use Rattle.expansion_parts.specs.ExpansionParts.{t13_of}
use Rattle.expansion_parts.proofs.t13.Goals as goal

pub returns-then-sw14 : goal.returns-then-sw14
unfolding t13_of
returns-then-sw14 c = simp (← c.terdiurnal.ensures) (simp c.if-sw14.true)

pub returns : goal.returns
unfolding t13_of
returns c = simp c.if-sw14.false
