-- `blended_helium` meets its contract.
use Rattle.species.specs.Rooted.{blended_helium}
use Rattle.species.proofs.blended_helium.Goals as goal

pub returns-then-not-on : goal.returns-then-not-on
unfolding blended_helium
returns-then-not-on c = simp c.if-not-on.true-raw

pub returns : goal.returns
unfolding blended_helium
returns c = simp (← c.ccor-c.ensures, ← c.blended-x.ensures, ← c.pdl1-l.ensures, ← c.pdm0-m.ensures) (simp c.if-not-on.false-raw)
