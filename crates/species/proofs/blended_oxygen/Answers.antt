-- `blended_oxygen` meets its contract.
use Rattle.species.specs.Rooted.{blended_oxygen}
use Rattle.species.proofs.blended_oxygen.Goals as goal

pub returns-then-not-on : goal.returns-then-not-on
unfolding blended_oxygen
returns-then-not-on c = simp c.if-not-on.true-raw

pub returns : goal.returns
unfolding blended_oxygen
returns c = simp (← c.ccor-e.ensures, ← c.ccor2-c.ensures, ← c.blended-x.ensures, ← c.pdl1-l.ensures, ← c.pdm1-m.ensures) (simp c.if-not-on.false-raw)
