-- `spine_at` meets its contract.
use Rattle.species.proofs.spine_at.Goals as goal

pub returns : goal.returns
returns c = simp (← c.spine_of.ensures, ← c.zn1-zn.ensures, ← c.ptm-m.ensures)
