-- `blended` meets its contract.
use Rattle.species.specs.Rooted.{blended_of}
use Rattle.species.proofs.blended.Goals as goal

pub returns : goal.returns
unfolding blended_of
returns c = simp (← c.dnet-d.ensures, ← c.thinned-dm.ensures)
