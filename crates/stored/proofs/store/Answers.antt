-- `store` meets its contract.
use native.Mathlib.Omega.{arith}
use borrow.Author.Rules.{rules}
use Rattle.stored.proofs.Laws.{store_law}
use Rattle.stored.proofs.store.Goals as goal

pub slice_bounds-put_footing-end : goal.slice_bounds-put_footing-end
slice_bounds-put_footing-end c =
    omega (arith, c.out-4-1.given.1, c.out-3-1.given.1, c.out-2-1.given.1, c.out-1.given.1, c.requires)

pub put_footing-requires : goal.put_footing-requires
put_footing-requires c = (search rules, c.put_summit-q.ensures.1)

pub shape_of-out : goal.shape_of-out
shape_of-out c =
    omega (arith, c.out-5-1.given.1, c.out-4-1.given.1, c.out-3-1.given.1, c.out-2-1.given.1, c.out-1.given.1)

pub returns : goal.returns
returns c =
    let A = c.args in
    store_law A.p A.sw A.x A.l A.out.now _ _ _ _ _ c.region_stored-b.result c.region_stored-c.result c.bases_of-d.result c.requires
    c.put_footing.ensures c.put_low.ensures c.put.ensures c.put-2.ensures c.put_summit-q.ensures.0
    c.region_stored-b.ensures c.region_stored-c.ensures c.bases_of-d.ensures
