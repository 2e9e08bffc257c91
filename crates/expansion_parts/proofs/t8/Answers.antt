-- `t8` meets its contract.
use Rattle.expansion_parts.specs.ExpansionParts.{t8_of}
use Rattle.expansion_parts.proofs.t8.Goals as goal

pub returns-then-v : goal.returns-then-v
unfolding t8_of
returns-then-v c = simp (← c.history8.ensures) (simp (c.if-v.true))

pub returns : goal.returns
unfolding t8_of
returns c = simp (← c.daily8.ensures) (simp (c.if-v.false))
