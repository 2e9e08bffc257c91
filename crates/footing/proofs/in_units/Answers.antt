-- `in_units` meets its contract.
use Rattle.footing.specs.Footing.{in_units_of}
use Rattle.footing.proofs.in_units.Goals as goal

pub returns : goal.returns
unfolding in_units_of
returns c = simp (← c.pick.ensures)
