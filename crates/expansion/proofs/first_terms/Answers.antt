-- `first_terms` meets its contract.
use Rattle.expansion.proofs.Laws.{first_terms_law}
use Rattle.expansion.proofs.first_terms.Goals as goal

pub returns : goal.returns
returns c =
    let A = c.args in
    first_terms_law A.v A.p.now A.g A.d
    c.t5-x5.result
    c.t4-x4.result
    c.t3-x3.result
    c.t1-x1.result
    c.t0-x0.result
    c.f1-fa.result
    c.t5-x5.ensures
    c.t4-x4.ensures
    c.t3-x3.ensures
    c.t1-x1.ensures
    c.t0-x0.ensures
    c.f1-fa.ensures
