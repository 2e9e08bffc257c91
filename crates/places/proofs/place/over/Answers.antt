-- `over` meets its contract.
use Rattle.places.specs.Place.{over_of}
use Rattle.places.proofs.place.over.Goals as goal

pub returns : goal.returns
unfolding over_of
returns c = simp (← c.log-lt.ensures, ← c.bates-tt.ensures, ← c.zeta-zg2.ensures, ← c.pick-zz.ensures)
