-- `region_stored` meets its contract.
use Rattle.stored.specs.Stored.{region_stored}
use Rattle.stored.proofs.Laws.{region_law}
use Rattle.stored.proofs.region_stored.Goals as goal

pub returns-then-not-on : goal.returns-then-not-on
unfolding region_stored
returns-then-not-on c = simp c.if-not-on.true-raw

pub returns : goal.returns
returns c = region_law c.args.on c.args.sw c.args.x c.args.l c.args.d c.args.z _ c.shape_stage-h.result c.roots_of-q.result c.region_numbers.ensures c.roots_of-q.ensures c.shape_stage-h.ensures c.if-not-on.false-raw
