-- `row_from` meets its contract.
use Rattle.gts7_arithmetic.specs.Gts7Arithmetic.{row_of}
use Rattle.gts7_arithmetic.proofs.row_from.Goals as goal

pub returns : goal.returns
unfolding row_of
returns c = simp (← c.units-d.ensures, ← c.mass-all.ensures)
