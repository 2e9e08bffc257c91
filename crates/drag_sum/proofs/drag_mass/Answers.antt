-- `drag_mass` meets its contract.
use Rattle.drag_sum.specs.DragSum.{drag_mass_of}
use Rattle.drag_sum.proofs.drag_mass.Goals as goal

pub returns : goal.returns
unfolding drag_mass_of
returns c = simp (← c.pick.ensures, ← c.drag_sum-all.ensures)
