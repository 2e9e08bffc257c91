-- `n2_alone` meets its contract.
use Rattle.unmixed.proofs.n2_alone.Goals as goal

pub returns : goal.returns
returns c = simp (← c.density.ensures, ← c.exp-g.ensures, ← c.pdm2-m.ensures, ← c.pd2-c.ensures)
