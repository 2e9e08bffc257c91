-- `t10` meets its contract.
use Rattle.expansion_parts.specs.ExpansionParts.{t10_of}
use Rattle.expansion_parts.proofs.t10.Goals as goal

pub returns-then-not-has_longitude : goal.returns-then-not-has_longitude
unfolding t10_of
returns-then-not-has_longitude c = simp (← c.has_longitude.ensures) (simp (c.if-not-has_longitude.true-raw))

pub returns-then-not-v : goal.returns-then-not-v
unfolding t10_of
returns-then-not-v c = simp (← c.has_longitude.ensures) (simp (c.if-not-v.true-raw, c.if-not-has_longitude.false-raw))

pub returns : goal.returns
unfolding t10_of
returns c = simp (← c.long_sin-y.ensures, ← c.long_cos-x.ensures, ← c.flux_factor-b.ensures, ← c.has_longitude.ensures) (simp (c.if-not-v.false-raw, c.if-not-has_longitude.false-raw))
