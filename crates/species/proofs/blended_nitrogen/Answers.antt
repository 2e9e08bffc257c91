-- `blended_nitrogen` meets its contract.
use Rattle.species.specs.Rooted.{blended_nitrogen}
use Rattle.species.proofs.blended_nitrogen.Goals as goal

pub returns-then-not-on : goal.returns-then-not-on
unfolding blended_nitrogen
returns-then-not-on c = simp c.if-not-on.true-raw

pub returns : goal.returns
unfolding blended_nitrogen
returns c = simp (← c.ccor-e.ensures, ← c.ccor-c.ensures, ← c.blended-x.ensures, ← c.pdl0-l.ensures, ← c.pdm6-m.ensures) (simp c.if-not-on.false-raw)
