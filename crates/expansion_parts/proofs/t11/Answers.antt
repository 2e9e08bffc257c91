-- `t11` meets its contract.
use Rattle.expansion_parts.specs.ExpansionParts.{t11_of}
use Rattle.expansion_parts.proofs.t11.Goals as goal

pub returns-then-not-has_longitude : goal.returns-then-not-has_longitude
unfolding t11_of
returns-then-not-has_longitude c = simp (← c.has_longitude.ensures) (simp (c.if-not-has_longitude.true-raw))

pub returns-then-not-v : goal.returns-then-not-v
unfolding t11_of
returns-then-not-v c = simp (← c.has_longitude.ensures) (simp (c.if-not-v.true-raw, c.if-not-has_longitude.false-raw))

pub returns : goal.returns
unfolding t11_of
returns c = simp (← c.ut_long-b.ensures, ← c.ut_mean-a.ensures, ← c.ut_with_long-z.ensures, ← c.ut-y.ensures, ← c.flux_factor-b137.ensures, ← c.flux_factor-b81.ensures, ← c.has_longitude.ensures) (simp (c.if-not-v.false-raw, c.if-not-has_longitude.false-raw))
