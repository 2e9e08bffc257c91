-- `o2` meets its contract.
use Rattle.species.specs.Rooted.{o2_from}
use Rattle.species.proofs.o2.Goals as goal

pub returns-then-not-sw15 : goal.returns-then-not-sw15
unfolding o2_from
returns-then-not-sw15 c = simp (← c.o2_mixed-x.ensures) (simp c.if-not-sw15.true-raw)

pub returns : goal.returns
unfolding o2_from
returns c = simp (← c.ccor2-c.ensures, ← c.pdl1-l.ensures, ← c.pdl0-k.ensures, ← c.pdm3-m.ensures, ← c.o2_mixed-x.ensures) (simp c.if-not-sw15.false-raw)
