-- `meet` meets its contract.
use native.Mathlib.Omega.{arith}
use Rattle.logs.proofs.Laws.{agree, differ, earlier, later}
use Rattle.logs.proofs.meet.Goals as goal

pub returns-then-x-y : goal.returns-then-x-y
returns-then-x-y c =
    let A = c.args in
    agree A.tolerance A.a A.x A.b A.y (omega (arith, c.distance.ensures)) c.if-x-y.true

pub returns-then-distance-tolerance : goal.returns-then-distance-tolerance
returns-then-distance-tolerance c =
    let A = c.args in
    differ A.tolerance A.a A.x A.b A.y (omega (arith, c.distance.ensures)) c.if-x-y.false

pub returns-then-a-b : goal.returns-then-a-b
returns-then-a-b c =
    let A = c.args in
    earlier A.tolerance A.a A.x A.b A.y (omega (arith, c.distance.ensures)) (omega arith)

pub returns : goal.returns
returns c =
    let A = c.args in
    later A.tolerance A.a A.x A.b A.y (omega (arith, c.distance.ensures)) (omega arith)
