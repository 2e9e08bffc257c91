-- `temperature_over_at` meets its contract.
use Rattle.species.proofs.temperature_over_at.Goals as goal

pub temperature_over-requires : goal.temperature_over-requires
temperature_over-requires c = rw c.zn1-zn.ensures c.requires

pub returns : goal.returns
returns c = simp (← c.temperature_over.ensures, ← c.zn1-zn.ensures, ← c.ptm-m.ensures)
