-- `helium_root` meets its contract.
use Rattle.species.specs.Rooted.{helium_root_of}
use Rattle.species.proofs.helium_root.Goals as goal

pub returns : goal.returns
unfolding helium_root_of
returns c = simp (c.root_of.ensures, c.pdm0-m.ensures)
