-- `scalh` meets its contract.
use Rattle.profile.specs.Gravity.{scalh_of}
use Rattle.profile.proofs.gravity.scalh.Goals as goal

pub returns : goal.returns
unfolding scalh_of
returns c = simp (← c.pow-q.ensures)
