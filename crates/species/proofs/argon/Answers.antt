-- `argon` meets its contract.
use Rattle.species.specs.Rooted.{argon_from}
use Rattle.species.proofs.argon.Goals as goal

pub returns : goal.returns
unfolding argon_from
returns c = simp (← c.blended_argon.ensures, ← c.gas-dd.ensures)
