-- `row_at` meets its contract.
use Rattle.region.specs.Region.{row_at}
use Rattle.region.proofs.row_at.Goals as goal

pub mixing_at-t-requires : goal.mixing_at-t-requires
mixing_at-t-requires c = c.requires.0

pub n2-n2-requires : goal.n2-n2-requires
n2-n2-requires c = c.requires.0

pub six_at-y-requires : goal.six_at-y-requires
six_at-y-requires c = c.requires.0

pub anomalous_oxygen-oh-requires : goal.anomalous_oxygen-oh-requires
anomalous_oxygen-oh-requires c = c.requires.1

pub returns : goal.returns
unfolding row_at
returns c = simp (c.row_from.ensures, c.anomalous_oxygen-oh.ensures, c.six_at-y.ensures, c.n2-n2.ensures, c.mixing_at-t.ensures, c.some_mixed-on.ensures, c.mixed_at-g.ensures, c.present-c.ensures, c.pdm7-m7.ensures, c.pdl1-l.ensures, c.pdm2-m.ensures)
