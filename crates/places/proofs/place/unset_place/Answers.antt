-- `unset_place` meets its contract.
use Rattle.places.specs.Place.{unset_place}
use Rattle.places.proofs.place.unset_place.Goals as goal

pub returns : goal.returns
unfolding unset_place
returns c = simp (← c.log-l1.ensures, ← c.pow-g.ensures)
