-- `daily12` meets its contract.
use Rattle.expansion_parts.specs.ExpansionParts.{daily12_of}
use Rattle.expansion_parts.proofs.daily12.Goals as goal

pub returns : goal.returns
unfolding daily12_of
returns c = simp (← c.activity_ut-d.ensures, ← c.activity_annual-b.ensures, ← c.activity_long-a.ensures, ← c.ut-y2.ensures, ← c.long_phase-y1.ensures, ← c.long_phase-y0.ensures)
