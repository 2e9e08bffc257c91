-- `below` meets its contract.
use Rattle.profile.specs.Profile.{densu_below}
use Rattle.profile.proofs.unchecked.below.Goals as goal

pub returns-then-xm : goal.returns-then-xm
unfolding densu_below
returns-then-xm c = simp c.if-xm.true

pub returns : goal.returns
unfolding densu_below
returns c = simp (← c.exp-k.ensures, ← c.pow-p.ensures, ← c.pick-expl.ensures, ← c.capped-c.ensures, ← c.exponent-e.ensures, ← c.densa-d.ensures) (simp c.if-xm.false)
