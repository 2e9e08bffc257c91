-- `below_za` meets its contract.
use Rattle.stored_parts.proofs.below_za.Goals as goal

pub returns : goal.returns
returns c = simp c.pdl1-l.ensures
