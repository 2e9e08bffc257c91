-- `grown` meets its contract.
use Rattle.first_below.proofs.Laws.{grows}
use Rattle.first_below.proofs.grown.Goals as goal

pub returns : goal.returns
returns c =
    let A = c.args in
    grows A.w A.n A.h A.z A.numbers.now c.requires c.parts_at-q.result c.reached-p.result c.either_parts.result
    c.need_of-a.result c.record_values-v.result c.day-doy.result c.site_of-x.result _
    c.parts_at-q.ensures c.reached-p.ensures c.need_of-a.ensures c.record_values-v.ensures.0 c.day-doy.ensures
    c.site_of-x.ensures c.store_in.ensures c.either_parts.ensures
