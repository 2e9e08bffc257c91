-- `anomalous` meets its contract.
use Rattle.gts7_arithmetic.specs.Gts7Arithmetic.{anomalous_of}
use Rattle.gts7_arithmetic.proofs.anomalous.Goals as goal

pub returns : goal.returns
unfolding anomalous_of
returns c = simp (← c.pdl0-l.ensures, ← c.pdm7-m.ensures)
