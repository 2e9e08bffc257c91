-- `hydrogen_root` meets its contract.
use Rattle.species.proofs.Laws.{root_17}
use Rattle.species.specs.Rooted.{hydrogen_root_of}
use Rattle.species.proofs.hydrogen_root.Goals as goal

pub returns : goal.returns
unfolding hydrogen_root_of
returns c = simp (c.root_of.ensures, c.pdl1-l.ensures, c.pdm5-m.ensures, root_17)
