-- `g0` meets its contract.
use Rattle.activity.specs.Activity.{g0_of}
use Rattle.activity.proofs.g0.Goals as goal

pub returns : goal.returns
unfolding g0_of
returns c = simp (← c.exp-e.ensures)
