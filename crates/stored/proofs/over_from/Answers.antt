-- `over_from` meets its contract.
use Rattle.stored.proofs.over_from.Goals as goal

pub returns : goal.returns
returns c = simp (c.row_over.ensures, c.roots_from-q.ensures, c.shape_from-h.ensures)
