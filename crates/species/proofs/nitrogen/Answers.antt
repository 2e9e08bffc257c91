-- `nitrogen` meets its contract.
use Rattle.species.specs.Rooted.{nitrogen_from}
use Rattle.species.proofs.nitrogen.Goals as goal

pub returns : goal.returns
unfolding nitrogen_from
returns c = simp (← c.blended_nitrogen.ensures, ← c.gas-dd.ensures)
