-- `base` meets its contract.
use Rattle.region.specs.Region.{base_of}
use Rattle.region.proofs.base.Goals as goal

pub returns : goal.returns
unfolding base_of
returns c = simp c.exp-g.ensures
