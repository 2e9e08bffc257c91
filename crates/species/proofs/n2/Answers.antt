-- `n2` meets its contract.
use Rattle.species.specs.Rooted.{n2_from}
use Rattle.species.proofs.n2.Goals as goal

pub returns : goal.returns
unfolding n2_from
returns c = simp (← c.blended_n2.ensures, ← c.gas-dd.ensures)
