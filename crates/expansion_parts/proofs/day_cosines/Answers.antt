-- `day_cosines` meets its contract.
use Rattle.expansion_parts.proofs.day_cosines.Goals as goal

pub returns : goal.returns
returns c = simp (← c.semiannual_at-d.ensures, ← c.annual_at-c.ensures, ← c.semiannual_at-b.ensures, ← c.annual_at-a.ensures)
