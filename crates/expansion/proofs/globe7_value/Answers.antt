-- `globe7_value` meets its contract.
use native.Mathlib.Omega.{arith}
use Rattle.expansion.proofs.Laws.{globe7_value_law}
use Rattle.expansion.proofs.globe7_value.Goals as goal

pub t7-x7-requires : goal.t7-x7-requires
t7-x7-requires c = c.requires.0

pub t8-x8-requires : goal.t8-x8-requires
t8-x8-requires c = c.requires

pub t10-x10-requires : goal.t10-x10-requires
t10-x10-requires c = c.requires.0

pub t11-x11-requires : goal.t11-x11-requires
t11-x11-requires c = c.requires

pub t12-x12-requires : goal.t12-x12-requires
t12-x12-requires c = c.requires

pub t13-x13-requires : goal.t13-x13-requires
t13-x13-requires c = c.requires.0

pub bounds-p-30 : goal.bounds-p-30
bounds-p-30 c = omega (arith, c.requires.0)

pub weighted-requires : goal.weighted-requires
weighted-requires c = c.requires.1.weights

pub returns : goal.returns
returns c = let A = c.args in
    globe7_value_law A.v A.p.now A.g A.s A.d
    c.weighted.result
    c.t13-x13.result
    c.t12-x12.result
    c.t11-x11.result
    c.t10-x10.result
    c.t8-x8.result
    c.t7-x7.result
    c.t6-x6.result
    c.f2-fb.result
    c.first_terms-y.result
    c.weighted.ensures
    c.t13-x13.ensures
    c.t12-x12.ensures
    c.t11-x11.ensures
    c.t10-x10.ensures
    c.t8-x8.ensures
    c.t7-x7.ensures
    c.t6-x6.ensures
    c.f2-fb.ensures
    c.first_terms-y.ensures
