-- `site_of` meets its contract.
use Rattle.gts7_arithmetic.specs.Gts7Arithmetic.{site_of}
use Rattle.gts7_arithmetic.proofs.site_of.Goals as goal

pub returns : goal.returns
unfolding site_of
returns c = simp (← c.site_with.ensures, ← c.present-c.ensures)
