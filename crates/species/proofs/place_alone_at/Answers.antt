-- `place_alone_at` meets its contract.
use Rattle.species.proofs.place_alone_at.Goals as goal

pub returns : goal.returns
returns c = simp (← c.place_alone.ensures, ← c.zn1-zn.ensures, ← c.ptm-m.ensures)
