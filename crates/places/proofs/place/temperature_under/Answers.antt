-- `temperature_under` meets its contract.
use Rattle.places.specs.Place.{under_of}
use Rattle.layers.specs.Layers.{layer_read}
use Rattle.places.proofs.place.temperature_under.Goals as goal

pub returns : goal.returns
unfolding under_of layer_read
returns c =
    simp (← c.splint-y.ensures, ← c.zeta-zg.ensures, ← c.pick-zz.ensures)
