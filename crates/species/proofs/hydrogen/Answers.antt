-- `hydrogen` meets its contract.
use Rattle.species.specs.Rooted.{hydrogen_from}
use Rattle.species.proofs.hydrogen.Goals as goal

pub returns : goal.returns
unfolding hydrogen_from
returns c = simp (← c.blended_hydrogen.ensures, ← c.gas-dd.ensures)
