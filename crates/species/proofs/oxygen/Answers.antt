-- `oxygen` meets its contract.
use Rattle.species.specs.Rooted.{oxygen_from}
use Rattle.species.proofs.oxygen.Goals as goal

pub returns : goal.returns
unfolding oxygen_from
returns c = simp (← c.blended_oxygen.ensures, ← c.gas-dd.ensures)
