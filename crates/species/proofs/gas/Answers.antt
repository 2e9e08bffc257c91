-- `gas` meets its contract.
use Rattle.species.specs.Rooted.{gas_of}
use Rattle.species.proofs.gas.Goals as goal

pub returns : goal.returns
unfolding gas_of
returns c = simp (← c.thinned.ensures, ← c.thin-t.ensures)
