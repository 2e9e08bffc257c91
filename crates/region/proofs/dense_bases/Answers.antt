-- `dense_bases` meets its contract.
use Rattle.region.specs.Region.{dense_bases_of}
use Rattle.region.proofs.dense_bases.Goals as goal

pub returns : goal.returns
unfolding dense_bases_of
returns c = simp (c.base-ar.ensures, c.base-o2.ensures, c.base-n2.ensures, c.base-o.ensures, c.pdm4-m4.ensures, c.pdm3-m3.ensures, c.pdm2-m2.ensures, c.pdm1-m1.ensures, c.pd5-c5.ensures, c.pd4-c4.ensures, c.pd2-c2.ensures, c.pd1-c1.ensures)
