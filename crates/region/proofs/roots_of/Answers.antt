-- `roots_of` meets its contract.
use Rattle.region.specs.Region.{roots_of}
use Rattle.region.proofs.Laws.{turbopauses_logged}
use Rattle.region.proofs.roots_of.Goals as goal

pub roots_from-requires : goal.roots_from-requires
roots_from-requires c = turbopauses_logged c.args.h _ c.turbopauses_of-w.result c.turbopauses_of-w.ensures

pub returns : goal.returns
unfolding roots_of
returns c = simp (c.roots_from.ensures, c.turbopauses_of-w.ensures)
