-- `row_over` meets its contract.
use Rattle.region.specs.Region.{row_over}
use Rattle.species.proofs.Laws.{logged_at}
use Rattle.region.proofs.row_over.Goals as goal

pub row_at-requires : goal.row_at-requires
row_at-requires c = (logged_at _ _ _ c.place_alone_at-p.ensures, logged_at _ _ _ c.place_alone_at-k.ensures)

pub returns : goal.returns
unfolding row_over
returns c = simp (c.row_at.ensures, c.temperature_alone-t1.ensures, c.sqrt-r.ensures, c.place_alone_at-k.ensures, c.anomalous-g.ensures, c.place_alone_at-p.ensures)
