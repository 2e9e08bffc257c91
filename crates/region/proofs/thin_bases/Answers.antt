-- `thin_bases` meets its contract.
use Rattle.region.specs.Region.{thin_bases_of}
use Rattle.region.proofs.thin_bases.Goals as goal

pub returns : goal.returns
unfolding thin_bases_of
returns c = simp (c.base-hot.ensures, c.base-n.ensures, c.base-h.ensures, c.base-he.ensures, c.pdm7-m7.ensures, c.pdm6-m6.ensures, c.pdm5-m5.ensures, c.pdm0-m0.ensures, c.pd8-c8.ensures, c.pd7-c7.ensures, c.pd6-c6.ensures, c.pd0-c0.ensures)
