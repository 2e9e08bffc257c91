-- `zn1` meets its contract.
use Rattle.species.proofs.zn1.Goals as goal

pub returns : goal.returns
returns c = simp (← c.pdl1-l.ensures)
