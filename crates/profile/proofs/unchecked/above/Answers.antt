-- `above` meets its contract.
use Rattle.profile.specs.Profile.{densu_above}
use Rattle.profile.proofs.unchecked.above.Goals as goal

pub returns-then-xm : goal.returns-then-xm
unfolding densu_above
returns-then-xm c = simp c.if-xm.true

pub returns : goal.returns
unfolding densu_above
returns c = simp (← c.densa-d.ensures) (simp c.if-xm.false)
