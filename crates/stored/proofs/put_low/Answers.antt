-- `put_low` meets its contract.
use native.Mathlib.Omega.{arith}
use Rattle.stored.specs.Stored.{low_stored}
use Rattle.stored.proofs.Laws.{low_law}
use Rattle.stored.proofs.put_low.Goals as goal

pub returns-then-not-on : goal.returns-then-not-on
unfolding low_stored
returns-then-not-on c = simp c.if-not-on.true-raw c.put.ensures

pub slice_bounds-put-end-4 : goal.slice_bounds-put-end-4
slice_bounds-put-end-4 c = omega (arith, c.out-2-1.given.1, c.requires)

pub slice_bounds-put-end-6 : goal.slice_bounds-put-end-6
slice_bounds-put-end-6 c = omega (arith, c.out-3-1.given.1, c.out-2-1.given.1, c.requires)

pub returns : goal.returns
returns c = low_law c.args.on c.args.sw c.args.x c.args.l c.args.d c.args.out.now _ _ _ c.region_numbers-a.result c.spine_numbers-b.result c.spine_numbers-c.result c.shape_stage-h.result c.spine_at-s.result c.spine_at-k.result c.roots_of-q.result c.anomalous-g.result c.requires c.put-2.ensures c.put-3.ensures c.put-4.ensures c.region_numbers-a.ensures c.spine_numbers-b.ensures c.spine_numbers-c.ensures c.if-not-on.false-raw c.shape_stage-h.ensures c.spine_at-s.ensures c.roots_of-q.ensures c.anomalous-g.ensures c.spine_at-k.ensures
