-- `summit_from` meets its contract.
use Rattle.footing.specs.Footing.{summit_from}
use Rattle.footing.proofs.summit_from.Goals as goal

pub returns : goal.returns
unfolding summit_from
returns c = simp (← c.in_units-ar.ensures, ← c.in_units-o2.ensures, ← c.in_units-n2.ensures, ← c.in_units-he.ensures)
