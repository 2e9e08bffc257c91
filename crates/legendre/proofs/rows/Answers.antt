-- `rows` meets its contract.
use Rattle.legendre.specs.Legendre.{rows_of}
use Rattle.legendre.proofs.rows.Goals as goal

pub returns : goal.returns
unfolding rows_of
returns c = simp (← c.row3-e.ensures, ← c.row2-d.ensures, ← c.row1-b.ensures, ← c.row0-a.ensures)
