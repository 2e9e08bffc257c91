-- `densm54` meets its contract.
use Rattle.profile.proofs.unchecked.densm54.Goals as goal

pub returns : goal.returns
returns c = simp (← c.densm.ensures)
