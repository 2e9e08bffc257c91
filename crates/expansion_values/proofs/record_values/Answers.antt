-- `record_values` meets its contract.
use Rattle.expansion_values.proofs.Laws.{record_values_law}
use Rattle.expansion_values.proofs.record_values.Goals as goal

pub returns : goal.returns
returns c =
    let A = c.args in
    record_values_law A.w A.n A.a A.s.now _ c.day-doy.result c.longitude_in-long.result c.record_values_in.result
    c.requires c.record_values_in.ensures c.season_into.ensures c.longitude_in-long.ensures c.day-doy.ensures
