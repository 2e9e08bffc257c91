-- `second` meets its contract.
use Rattle.spline.proofs.Laws.{second_law}
use Rattle.spline.proofs.sweep.second.Goals as goal

pub returns : goal.returns
returns c =
    let A = c.args in
    second_law A.x.now A.y.now A.n A.yp1 A.ypn
    c.backward.result
    c.end_of-e.result
    c.pick-qn.result
    c.last_u-un.result
    c.forward-f.result
    c.first_u-b.result
    c.pick-a.result
    c.backward.ensures
    c.end_of-e.ensures
    c.pick-qn.ensures
    c.last_u-un.ensures
    c.forward-f.ensures
    c.first_u-b.ensures
    c.pick-a.ensures
