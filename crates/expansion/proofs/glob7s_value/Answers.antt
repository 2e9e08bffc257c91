-- `glob7s_value` meets its contract.
use Rattle.expansion.proofs.Laws.{glob7s_value_law}
use Rattle.expansion.proofs.glob7s_value.Goals as goal

pub t7s-x7-requires : goal.t7s-x7-requires
t7s-x7-requires c = c.requires.0

pub t8s-x8-requires : goal.t8s-x8-requires
t8s-x8-requires c = c.requires.0

pub t10s-x10-requires : goal.t10s-x10-requires
t10s-x10-requires c = c.requires.0

pub t13s-x13-requires : goal.t13s-x13-requires
t13s-x13-requires c = c.requires.0

pub weighted-requires : goal.weighted-requires
weighted-requires c = c.requires.1.weights

pub returns : goal.returns
returns c = let A = c.args in
    glob7s_value_law A.v A.p.now A.g A.s A.d A.e
    c.weighted.result
    c.t13s-x13.result
    c.t10s-x10.result
    c.t8s-x8.result
    c.t7s-x7.result
    c.t6s-x6.result
    c.t5-x5.result
    c.t4s-x4.result
    c.t3s-x3.result
    c.t2s-x2.result
    c.t1s-x1.result
    c.weighted.ensures
    c.t13s-x13.ensures
    c.t10s-x10.ensures
    c.t8s-x8.ensures
    c.t7s-x7.ensures
    c.t6s-x6.ensures
    c.t5-x5.ensures
    c.t4s-x4.ensures
    c.t3s-x3.ensures
    c.t2s-x2.ensures
    c.t1s-x1.ensures
