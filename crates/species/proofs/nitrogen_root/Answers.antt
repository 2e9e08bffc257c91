-- `nitrogen_root` meets its contract.
use Rattle.species.proofs.Laws.{root_2}
use Rattle.species.specs.Rooted.{nitrogen_root_of}
use Rattle.species.proofs.nitrogen_root.Goals as goal

pub returns : goal.returns
unfolding nitrogen_root_of
returns c = simp (c.root_of.ensures, c.pdl0-l.ensures, c.pdm6-m.ensures, root_2)
