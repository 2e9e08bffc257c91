-- `history8` meets its contract.
use Rattle.expansion_parts.specs.ExpansionParts.{history8_of}
use Rattle.expansion_parts.proofs.history8.Goals as goal

pub returns-then-not-p : goal.returns-then-not-p
unfolding history8_of
returns-then-not-p c = simp (c.if-not-p.true-raw)

pub returns-then-not-v : goal.returns-then-not-v
unfolding history8_of
returns-then-not-v c = simp (c.if-not-v.true-raw, c.if-not-p.false-raw)

pub returns : goal.returns
unfolding history8_of
returns c = simp (← c.activity_term.ensures, ← c.local_time_part-z.ensures, ← c.local-y.ensures) (simp (c.if-not-v.false-raw, c.if-not-p.false-raw))
