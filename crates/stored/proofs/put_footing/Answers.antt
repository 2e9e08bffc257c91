-- `put_footing` meets its contract.
use Rattle.stored.specs.Stored.{footing_stored}
use Rattle.stored.proofs.Laws.{footing_law}
use Rattle.stored.proofs.put_footing.Goals as goal

pub returns-then-not-on : goal.returns-then-not-on
unfolding footing_stored
returns-then-not-on c = simp c.if-not-on.true-raw c.put.ensures

pub footing_of-f-requires : goal.footing_of-f-requires
footing_of-f-requires c = c.requires.1

pub returns : goal.returns
returns c = footing_law c.args.on c.args.sw c.args.x c.args.l c.args.tropo c.args.out.now _ _ _ c.ground_numbers-a.result c.span_numbers-b.result c.span_numbers-c.result c.footing_of-f.result c.requires.0 c.put-2.ensures c.put-3.ensures c.put-4.ensures c.ground_numbers-a.ensures c.span_numbers-b.ensures c.span_numbers-c.ensures c.if-not-on.false-raw c.footing_of-f.ensures
