-- `turbopauses_of` meets its contract.
use Rattle.region.specs.Region.{turbopauses_of}
use Rattle.region.proofs.turbopauses_of.Goals as goal

pub returns : goal.returns
unfolding turbopauses_of
returns c = simp (c.place_at-e.ensures, c.place_at-c.ensures, c.place_at-b.ensures, c.place_at-a.ensures, c.pdm5-m5.ensures, c.pdm2-m2.ensures, c.pdm1-m1.ensures, c.pdm0-m0.ensures)
