-- `oxygen_root` meets its contract.
use Rattle.species.specs.Rooted.{oxygen_root_of}
use Rattle.species.proofs.oxygen_root.Goals as goal

pub returns : goal.returns
unfolding oxygen_root_of
returns c = simp (c.turbopause_density-b.ensures, c.pdl1-l.ensures, c.pdm1-m.ensures)
