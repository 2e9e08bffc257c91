-- `n2_root` meets its contract.
use Rattle.species.specs.Rooted.{n2_root_of}
use Rattle.species.proofs.n2_root.Goals as goal

pub returns : goal.returns
unfolding n2_root_of
returns c = simp c.gas-b.ensures
