-- `drag_on` meets its contract.
use Rattle.drag_sum.specs.DragSum.{dragged_of}
use Rattle.drag_sum.proofs.drag_on.Goals as goal

pub returns : goal.returns
unfolding dragged_of
returns c = simp (← c.drag_mass-all.ensures)
