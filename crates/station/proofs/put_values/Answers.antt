-- `put_values` meets its contract.
use Rattle.station.proofs.Laws.{all_put, some_put}
use Rattle.station.proofs.put_values.Goals as goal

pub returns-then-a : goal.returns-then-a
returns-then-a c =
    let A = c.args in
    all_put A.w A.n A.a A.numbers.now c.expansion_numbers-k.result _ c.record_values-v.result
    c.requires c.copy_from_slice.ensures.after c.expansion_numbers-k.ensures c.record_values-v.ensures.0 c.if-a.true

pub returns : goal.returns
returns c =
    let A = c.args in
    some_put A.w A.n A.a A.numbers.now c.expansion_numbers-k.result _ c.record_values-v.result
    c.copy_from_slice-2.ensures.after c.expansion_numbers-k.ensures c.record_values-v.ensures.0 c.if-a.false
