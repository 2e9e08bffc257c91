-- `under_from` meets its contract.
use Rattle.stored.proofs.Laws.{spine_logged}
use Rattle.stored.proofs.under_from.Goals as goal

pub row_under-requires : goal.row_under-requires
row_under-requires c = (spine_logged _ _ c.spine_from-a.ensures, spine_logged _ _ c.spine_from-b.ensures)

pub returns : goal.returns
returns c =
    simp (c.row_under.ensures, c.spine_from-b.ensures, c.spine_from-a.ensures, c.roots_from-q.ensures, c.shape_from-h.ensures)
