-- `blended_o2` meets its contract.
use Rattle.species.specs.Rooted.{blended_o2}
use Rattle.species.proofs.blended_o2.Goals as goal

pub returns-then-not-on : goal.returns-then-not-on
unfolding blended_o2
returns-then-not-on c = simp c.if-not-on.true-raw

pub returns : goal.returns
unfolding blended_o2
returns c = simp (← c.ccor-c.ensures, ← c.blended-x.ensures, ← c.pdl1-l.ensures, ← c.pdm3-m.ensures) (simp c.if-not-on.false-raw)
