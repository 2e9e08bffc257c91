-- `t12` meets its contract.
use Rattle.expansion_parts.specs.ExpansionParts.{t12_of}
use Rattle.expansion_parts.proofs.t12.Goals as goal

pub returns-then-not-has_longitude : goal.returns-then-not-has_longitude
unfolding t12_of
returns-then-not-has_longitude c = simp (← c.has_longitude.ensures) (simp (c.if-not-has_longitude.true-raw))

pub returns-then-not-v : goal.returns-then-not-v
unfolding t12_of
returns-then-not-v c = simp (← c.has_longitude.ensures) (simp (c.if-not-v.true-raw, c.if-not-has_longitude.false-raw))

pub returns-then-v : goal.returns-then-v
unfolding t12_of
returns-then-v c = simp (← c.history12.ensures, ← c.has_longitude.ensures) (simp (c.if-v.true, c.if-not-v.false-raw, c.if-not-has_longitude.false-raw))

pub returns : goal.returns
unfolding t12_of
returns c = simp (← c.daily12.ensures, ← c.has_longitude.ensures) (simp (c.if-v.false, c.if-not-v.false-raw, c.if-not-has_longitude.false-raw))
