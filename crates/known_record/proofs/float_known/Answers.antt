-- `float_known` meets its contract.
use Rattle.known_record.proofs.float_known.Goals as goal

pub returns : goal.returns
returns c = rw (c.pick.ensures, c.known_at.ensures)
