-- `anomalous_factor` meets its contract.
use Rattle.species.specs.Rooted.{anomalous_factor_of}
use Rattle.species.proofs.anomalous_factor.Goals as goal

pub returns : goal.returns
unfolding anomalous_factor_of
returns c = simp (← c.scalh-zsho.ensures)
