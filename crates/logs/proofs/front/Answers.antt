-- `front` meets its contract.
use Rattle.logs.proofs.Laws.{no_second, no_first, two_fronts}
use Rattle.logs.proofs.front.Goals as goal

pub returns-then-s2-j : goal.returns-then-s2-j
returns-then-s2-j c =
    let A = c.args in
    no_second A.s1.now A.b1.now A.s2.now A.b2.now c.requires.0 c.requires.1 A.tolerance A.i A.j c.if-s2-j.true

pub returns-then-s1-i : goal.returns-then-s1-i
returns-then-s1-i c =
    let A = c.args in
    no_first A.s1.now A.b1.now A.s2.now A.b2.now c.requires.0 c.requires.1 A.tolerance A.i A.j c.if-s2-j.false c.if-s1-i.true

pub returns : goal.returns
returns c =
    let A = c.args in
    two_fronts A.s1.now A.b1.now A.s2.now A.b2.now c.requires.0 c.requires.1 A.tolerance A.i A.j c.if-s2-j.false c.if-s1-i.false _ c.meet.ensures
