-- `daily8` meets its contract.
use Rattle.expansion_parts.specs.ExpansionParts.{daily8_of}
use Rattle.expansion_parts.proofs.daily8.Goals as goal

pub returns-then-not-v : goal.returns-then-not-v
unfolding daily8_of
returns-then-not-v c = simp (c.if-not-v.true-raw)

pub returns : goal.returns
unfolding daily8_of
returns c = simp (← c.activity_term.ensures, ← c.local_time_part-z.ensures, ← c.local-y.ensures) (simp (c.if-not-v.false-raw))
