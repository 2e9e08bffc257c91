-- `apdf_from` meets its contract.
use Rattle.activity.specs.Activity.{apdf_from_of}
use Rattle.activity.proofs.apdf_from.Goals as goal

pub returns : goal.returns
unfolding apdf_from_of
returns c = simp (← c.exp-e.ensures, ← c.pick-q.ensures)
