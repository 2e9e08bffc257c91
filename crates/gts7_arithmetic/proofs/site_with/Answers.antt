-- `site_with` meets its contract.
use Rattle.gts7_arithmetic.specs.Gts7Arithmetic.{site_with}
use Rattle.gts7_arithmetic.proofs.site_with.Goals as goal

pub returns : goal.returns
unfolding site_with
returns c = simp (← c.site_from.ensures, ← c.cos-b.ensures, ← c.sin-a.ensures, ← c.pt-p.ensures)
