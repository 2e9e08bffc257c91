-- `anomalous_oxygen` meets its contract.
use Rattle.species.specs.Rooted.{anomalous_oxygen_from}
use Rattle.species.proofs.anomalous_oxygen.Goals as goal

pub returns : goal.returns
unfolding anomalous_oxygen_from
returns c = simp (← c.exp-b.ensures, ← c.exp-a.ensures, ← c.gas-dd.ensures)
