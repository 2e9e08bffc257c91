-- `reached` meets its contract.
use Rattle.footing.proofs.Laws.{upper_law, lower_law, between_law}
use Rattle.footing.proofs.reached.Goals as goal

pub returns-then-alt : goal.returns-then-alt
returns-then-alt c = let A = c.args in
    upper_law A.x A.d A.m A.k A.alt c.down.result c.down.ensures c.if-alt.true

pub returns-then-alt-2 : goal.returns-then-alt-2
returns-then-alt-2 c = let A = c.args in
    lower_law A.x A.d A.m A.k A.alt c.down-then-alt-2.result c.down-then-alt-2.ensures c.if-alt-2.true c.if-alt.false

pub returns : goal.returns
returns c = let A = c.args in
    between_law A.x A.d A.m A.k A.alt c.n2.result c.unset-w.result
    c.n2.ensures c.unset-w.ensures c.if-alt-2.false c.if-alt.false
