-- `temperature_over` meets its contract.
use Rattle.places.specs.Place.{over_temperature}
use Rattle.places.proofs.place.temperature_over.Goals as goal

pub returns : goal.returns
returns c =
    rw (c.bates.ensures, c.zeta-zg2.ensures, c.pick-zz.ensures)
    (over_temperature c.args.h c.args.z c.args.zlb c.args.zn c.requires)
