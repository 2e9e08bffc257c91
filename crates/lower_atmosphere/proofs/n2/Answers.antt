-- `n2` meets its contract.
use Rattle.lower_atmosphere.specs.LowerAtmosphere.{lower_n2}
use Rattle.lower_atmosphere.proofs.n2.Goals as goal

pub returns : goal.returns
unfolding lower_n2
returns c = simp (← c.densm54.ensures)
