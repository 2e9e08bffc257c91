-- `after` meets its contract.
use Rattle.expansion.proofs.Laws.{after_law}
use Rattle.expansion.proofs.after.Goals as goal

pub returns : goal.returns
returns c =
    let A = c.args in
    after_law A.v A.p.now A.s
    c.apt_next-apt.result
    c.apdf_next-apdf.result
    c.turns_after-t.result
    c.flat-q.result
    c.legendre-g.result
    c.apt_next-apt.ensures
    c.apdf_next-apdf.ensures
    c.turns_after-t.ensures
    c.flat-q.ensures
    c.legendre-g.ensures
