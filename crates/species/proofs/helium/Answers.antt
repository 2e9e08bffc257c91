-- `helium` meets its contract.
use Rattle.species.specs.Rooted.{helium_from}
use Rattle.species.proofs.helium.Goals as goal

pub returns : goal.returns
unfolding helium_from
returns c = simp (← c.blended_helium.ensures, ← c.gas-dd.ensures)
