-- `o2_root` meets its contract.
use Rattle.species.specs.Rooted.{o2_root_of}
use Rattle.species.proofs.o2_root.Goals as goal

pub returns : goal.returns
unfolding o2_root_of
returns c = simp (c.root_of.ensures, c.pdm3-m.ensures)
