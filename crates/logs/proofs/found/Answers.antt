-- `found` meets its contract: the first n numbers are in the table, and the logs from i and from j on give the others.
use mathlib.Core.Path.{refl}
use Prim.Native.Nat.{◌<◌, ◌+◌}
use native.Mathlib.Omega.{arith}
use borrow.Author.Rules.{rules}
use lib.ListN.{length}
use Rattle.logs.proofs.Laws.{left_over, both_used_up, first_fits, second_fits, some_entry, turn, filled}
use Rattle.logs.proofs.found.Goals as goal

pub loop-k-init : goal.loop-k-init
loop-k-init c = (search rules, search rules, search rules, search rules, (refl, refl))

pub offset_bounds-table-n : goal.offset_bounds-table-n
offset_bounds-table-n c =
    let at = c.loop-k in
    let A = c.args in
    let w : at.i + at.j < length A.s1.now + length A.s2.now =
    left_over at.i at.j (length A.s1.now) (length A.s2.now) _ c.left.ensures at.invariant.0 at.invariant.1 c.loop-k-test.true in
    omega arith

pub bounds-table-n : goal.bounds-table-n
bounds-table-n c =
    let at = c.loop-k in
    let A = c.args in
    let w : at.i + at.j < length A.s1.now + length A.s2.now =
    left_over at.i at.j (length A.s1.now) (length A.s2.now) _ c.left.ensures at.invariant.0 at.invariant.1 c.loop-k-test.true in
    omega arith

pub overflow_add-n : goal.overflow_add-n
overflow_add-n c =
    let at = c.loop-k in
    let A = c.args in
    let w : at.i + at.j < length A.s1.now + length A.s2.now =
    left_over at.i at.j (length A.s1.now) (length A.s2.now) _ c.left.ensures at.invariant.0 at.invariant.1 c.loop-k-test.true in
    omega arith

pub loop-k-smaller : goal.loop-k-smaller
loop-k-smaller c =
    let at = c.loop-k in
    let A = c.args in
    let w : at.i + at.j < length A.s1.now + length A.s2.now =
    left_over at.i at.j (length A.s1.now) (length A.s2.now) _ c.left.ensures at.invariant.0 at.invariant.1 c.loop-k-test.true in
    let k = c.front-k in
    let p = c.of_first-i in
    let q = c.of_second-j in
    omega (arith, some_entry A.s1.now A.b1.now A.s2.now A.b2.now c.requires.0 c.requires.1 A.tolerance at.i at.j at.invariant.0 at.invariant.1 w k.result p.result q.result k.ensures p.ensures.0 q.ensures.0, first_fits A.s1.now A.b1.now A.s2.now A.b2.now c.requires.0 c.requires.1 A.tolerance at.i at.j at.invariant.0 at.invariant.1 w k.result p.result q.result k.ensures p.ensures.0 q.ensures.0, second_fits A.s1.now A.b1.now A.s2.now A.b2.now c.requires.0 c.requires.1 A.tolerance at.i at.j at.invariant.0 at.invariant.1 w k.result p.result q.result k.ensures p.ensures.0 q.ensures.0)

pub loop-k-preserved : goal.loop-k-preserved
loop-k-preserved c =
    let at = c.loop-k in
    let A = c.args in
    let w : at.i + at.j < length A.s1.now + length A.s2.now =
    left_over at.i at.j (length A.s1.now) (length A.s2.now) _ c.left.ensures at.invariant.0 at.invariant.1 c.loop-k-test.true in
    let k = c.front-k in
    let p = c.of_first-i in
    let q = c.of_second-j in
    let some = some_entry A.s1.now A.b1.now A.s2.now A.b2.now c.requires.0 c.requires.1 A.tolerance at.i at.j at.invariant.0 at.invariant.1 w k.result p.result q.result k.ensures p.ensures.0 q.ensures.0 in (
      first_fits A.s1.now A.b1.now A.s2.now A.b2.now c.requires.0 c.requires.1 A.tolerance at.i at.j at.invariant.0 at.invariant.1 w k.result p.result q.result k.ensures p.ensures.0 q.ensures.0,
      second_fits A.s1.now A.b1.now A.s2.now A.b2.now c.requires.0 c.requires.1 A.tolerance at.i at.j at.invariant.0 at.invariant.1 w k.result p.result q.result k.ensures p.ensures.0 q.ensures.0,
      omega arith,
      search rules,
      turn A.s1.now A.b1.now A.s2.now A.b2.now c.requires.0 c.requires.1 A.tolerance at.i at.j at.invariant.0 at.invariant.1 w k.result p.result q.result k.ensures p.ensures.0 q.ensures.0 at.n _ at.table c.number.ensures (omega arith) at.invariant.3 at.invariant.4,
    )

pub returns : goal.returns
returns c =
    let at = c.loop-k in
    let A = c.args in
    let used = both_used_up at.i at.j (length A.s1.now) (length A.s2.now) _ c.left.ensures c.loop-k-test.false in
    filled A.s1.now A.b1.now A.s2.now A.b2.now c.requires.0 c.requires.1 A.tolerance at.i at.j at.n at.table (omega arith) at.invariant.3 used.0 used.1 at.invariant.4
