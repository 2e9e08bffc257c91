-- `exp1` meets its contract.
use Rattle.activity.specs.Activity.{exp1_of}
use Rattle.activity.proofs.exp1.Goals as goal

pub returns : goal.returns
unfolding exp1_of
returns c = simp (← c.pick.ensures, ← c.exp-e.ensures, ← c.sqrt-b.ensures, ← c.sqrt-a.ensures)
