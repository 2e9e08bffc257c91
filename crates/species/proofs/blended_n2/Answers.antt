-- `blended_n2` meets its contract.
use Rattle.species.specs.Rooted.{blended_n2}
use Rattle.species.proofs.blended_n2.Goals as goal

pub returns-then-not-on : goal.returns-then-not-on
unfolding blended_n2
returns-then-not-on c = simp c.if-not-on.true-raw

pub returns : goal.returns
unfolding blended_n2
returns c = simp (← c.blended.ensures, ← c.pdl1-l.ensures, ← c.pdm2-m.ensures) (simp c.if-not-on.false-raw)
