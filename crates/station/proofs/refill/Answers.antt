-- `refill` meets its contract.
use Rattle.station.proofs.Laws.{refill_law}
use Rattle.station.proofs.refill.Goals as goal

pub returns : goal.returns
returns c =
    refill_law c.args.w c.args.n c.args.numbers.now _ c.tselec-f.result c.site_under-x.result c.expansion_values_in-l.result c.all_parts-p.result
    c.store.ensures c.expansion_values_in-l.ensures c.all_parts-p.ensures c.site_under-x.ensures c.tselec-f.ensures
