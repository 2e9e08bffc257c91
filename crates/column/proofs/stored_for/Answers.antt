-- `stored_for` meets its contract.
use Rattle.column.proofs.Laws.{stored_are}
use Rattle.column.proofs.stored_for.Goals as goal

pub returns : goal.returns
returns c =
    stored_are c.args.w c.args.n c.args.alts.now c.args.numbers.now _ _ _ c.record_values-v.result c.site_of-x.result
    c.day-doy.result c.parts_of-p.result c.need_of-a.result c.requires c.record_values-v.ensures.0 c.site_of-x.ensures
    c.day-doy.ensures c.parts_of-p.ensures c.need_of-a.ensures c.record_values-v.ensures.1 c.store.ensures
