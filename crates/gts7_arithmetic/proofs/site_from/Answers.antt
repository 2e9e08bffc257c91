-- `site_from` meets its contract.
use Rattle.gts7_arithmetic.specs.Gts7Arithmetic.{site_from}
use Rattle.gts7_arithmetic.proofs.site_from.Goals as goal

pub returns : goal.returns
unfolding site_from
returns c = simp (← c.glatf-g.ensures, ← c.pick-xlat.ensures, ← c.pdl1-l.ensures, ← c.pdl0-k.ensures)
