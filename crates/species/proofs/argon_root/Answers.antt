-- `argon_root` meets its contract.
use Rattle.species.specs.Rooted.{argon_root_of}
use Rattle.species.proofs.argon_root.Goals as goal

pub returns : goal.returns
unfolding argon_root_of
returns c = simp (c.root_of.ensures, c.pdm4-m.ensures)
