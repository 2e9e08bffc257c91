-- `roots_from` meets its contract.
use Rattle.region.specs.Region.{roots_from}
use Rattle.region.proofs.roots_from.Goals as goal

pub n2_root-n2-requires : goal.n2_root-n2-requires
n2_root-n2-requires c = c.requires.0

pub returns : goal.returns
unfolding roots_from
returns c = simp (c.anomalous_factor-f.ensures, c.nitrogen_root-n.ensures, c.hydrogen_root-h.ensures, c.argon_root-ar.ensures, c.o2_root-o2.ensures, c.oxygen_root-o.ensures, c.helium_root-he.ensures, c.n2_root-n2.ensures, c.pdl1-l.ensures, c.pdl0-k.ensures, c.pdm7-m7.ensures, c.pdm3-m3.ensures)
