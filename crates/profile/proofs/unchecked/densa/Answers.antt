-- `densa` meets its contract.
use Rattle.profile.specs.Profile.{densa_of}
use Rattle.profile.proofs.unchecked.densa.Goals as goal

pub returns : goal.returns
unfolding densa_of
returns c = simp (← c.pow-p.ensures, ← c.pick-expl.ensures, ← c.capped-c.ensures, ← c.exp-e.ensures, ← c.pow-q.ensures)
