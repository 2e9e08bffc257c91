-- `curves_of` meets its contract.
use Rattle.footing.specs.Footing.{curves_of}
use Rattle.footing.proofs.curves_of.Goals as goal

pub returns-then-not-tropo : goal.returns-then-not-tropo
unfolding curves_of
returns-then-not-tropo c = simp (← c.blank-v.ensures, ← c.span_of-u.ensures, ← c.layer-a.ensures) (simp c.if-not-tropo.true-raw)

pub returns : goal.returns
unfolding curves_of
returns c = simp (← c.span_of-v.ensures, ← c.layer-b.ensures, ← c.lower_stage-w.ensures, ← c.lowered-d32.ensures, ← c.span_of-u.ensures, ← c.layer-a.ensures) (simp c.if-not-tropo.false-raw)
