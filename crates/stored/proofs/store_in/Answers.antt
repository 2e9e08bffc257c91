-- `store_in` meets its contract.
use Rattle.stored.proofs.Laws.{store_in_law}
use Rattle.stored.proofs.store_in.Goals as goal

pub returns : goal.returns
returns c =
    let A = c.args in
    store_in_law A.p A.sw A.x A.l A.out.now _ _ _ _ _ c.bases_of-d.result c.requires
    c.footing_in.ensures c.low_in.ensures c.region_in.ensures c.region_in-2.ensures c.summit_in.ensures c.bases_of-d.ensures
