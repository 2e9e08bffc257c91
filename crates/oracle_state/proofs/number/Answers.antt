-- `number` meets its contract.
use Rattle.oracle_state.proofs.Laws.{first, second, third, fourth, marked}
use Rattle.oracle_state.proofs.number.Goals as goal

pub returns-then-k-lt30 : goal.returns-then-k-lt30
returns-then-k-lt30 c =
    let A = c.args in
    first A.s A.k _ c.nodes-a.ensures c.if-k-lt30.true

pub returns-then-k-eq30 : goal.returns-then-k-eq30
returns-then-k-eq30 c =
    let A = c.args in
    second A.s A.k c.if-k-lt30.false c.if-k-eq30.true

pub returns-then-k-lt67 : goal.returns-then-k-lt67
returns-then-k-lt67 c =
    let A = c.args in
    third A.s A.k c.if-k-lt30.false c.if-k-eq30.false c.if-k-lt67.true

pub returns-then-k-lt78 : goal.returns-then-k-lt78
returns-then-k-lt78 c =
    let A = c.args in
    fourth A.s A.k c.if-k-lt30.false c.if-k-eq30.false c.if-k-lt67.false _ c.last-c.ensures c.if-k-lt78.true

pub returns : goal.returns
returns c =
    let A = c.args in
    marked A.s A.k c.if-k-lt30.false c.if-k-eq30.false c.if-k-lt67.false _ c.if-k-lt78.false c.pick.ensures
