-- `above_za` meets its contract.
use Rattle.stored_parts.proofs.above_za.Goals as goal

pub returns : goal.returns
returns c = simp c.pdl1-l.ensures
