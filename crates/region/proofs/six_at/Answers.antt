-- `six_at` meets its contract.
use Rattle.region.specs.Region.{six_at}
use Rattle.region.proofs.six_at.Goals as goal

pub helium-he-requires : goal.helium-he-requires
helium-he-requires c = c.requires

pub oxygen-o-requires : goal.oxygen-o-requires
oxygen-o-requires c = c.requires

pub o2-o2-requires : goal.o2-o2-requires
o2-o2-requires c = c.requires

pub argon-ar-requires : goal.argon-ar-requires
argon-ar-requires c = c.requires

pub hydrogen-h-requires : goal.hydrogen-h-requires
hydrogen-h-requires c = c.requires

pub nitrogen-n-requires : goal.nitrogen-n-requires
nitrogen-n-requires c = c.requires

pub returns : goal.returns
unfolding six_at
returns c = simp (c.nitrogen-n.ensures, c.hydrogen-h.ensures, c.argon-ar.ensures, c.o2-o2.ensures, c.oxygen-o.ensures, c.helium-he.ensures)
