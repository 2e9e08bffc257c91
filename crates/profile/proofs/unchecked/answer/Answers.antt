-- `answer` meets its contract.
use Rattle.profile.specs.Profile.{profile_answer}
use Rattle.profile.proofs.unchecked.answer.Goals as goal

pub returns-then-xm : goal.returns-then-xm
unfolding profile_answer
returns-then-xm c = simp c.if-xm.true

pub returns : goal.returns
unfolding profile_answer
returns c = simp c.if-xm.false
