-- `blended_hydrogen` meets its contract.
use Rattle.species.specs.Rooted.{blended_hydrogen}
use Rattle.species.proofs.blended_hydrogen.Goals as goal

pub returns-then-not-on : goal.returns-then-not-on
unfolding blended_hydrogen
returns-then-not-on c = simp c.if-not-on.true-raw

pub returns : goal.returns
unfolding blended_hydrogen
returns c = simp (← c.ccor-e.ensures, ← c.ccor-c.ensures, ← c.blended-x.ensures, ← c.pdl1-l.ensures, ← c.pdm5-m.ensures) (simp c.if-not-on.false-raw)
