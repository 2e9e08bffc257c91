-- `bases_of` meets its contract.
use Rattle.region.specs.Region.{bases_of}
use Rattle.region.proofs.bases_of.Goals as goal

pub returns : goal.returns
unfolding bases_of
returns c = simp (c.dense_bases-b.ensures, c.thin_bases-a.ensures)
