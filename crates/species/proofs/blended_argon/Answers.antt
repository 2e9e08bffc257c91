-- `blended_argon` meets its contract.
use Rattle.species.specs.Rooted.{blended_argon}
use Rattle.species.proofs.blended_argon.Goals as goal

pub returns-then-not-on : goal.returns-then-not-on
unfolding blended_argon
returns-then-not-on c = simp c.if-not-on.true-raw

pub returns : goal.returns
unfolding blended_argon
returns c = simp (← c.ccor-c.ensures, ← c.blended-x.ensures, ← c.pdl1-l.ensures, ← c.pdm4-m.ensures) (simp c.if-not-on.false-raw)
