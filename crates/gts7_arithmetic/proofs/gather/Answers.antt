-- `gather` meets its contract.
use Rattle.gts7_arithmetic.specs.Gts7Arithmetic.{gather_of}
use Rattle.gts7_arithmetic.proofs.gather.Goals as goal

pub returns : goal.returns
unfolding gather_of
returns c = simp (← c.temperature-t.ensures, ← c.sqrt-r.ensures, ← c.units-d.ensures, ← c.mass-all.ensures)
