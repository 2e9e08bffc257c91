-- `under` meets its contract.
use Rattle.places.specs.Place.{under_of}
use Rattle.places.proofs.place.under.Goals as goal

pub returns : goal.returns
unfolding under_of
returns c =
    simp (← c.log-l1.ensures, ← c.read_at-a.ensures, ← c.zeta-zg.ensures, ← c.pick-zz.ensures)
