-- `lowered` meets its contract.
use Rattle.profile.specs.Profile.{lowered_of}
use Rattle.profile.proofs.unchecked.lowered.Goals as goal

pub returns-then-xm : goal.returns-then-xm
unfolding lowered_of
returns-then-xm c = simp c.if-xm.true

pub returns : goal.returns
unfolding lowered_of
returns c = simp (← c.exp-k.ensures, ← c.capped-c.ensures, ← c.exponent-e.ensures) (simp c.if-xm.false)
