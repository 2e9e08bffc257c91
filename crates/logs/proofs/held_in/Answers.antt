-- `held_in` meets its contract: refused, the slice is kept; accepted, it is the table.
use borrow.Author.Rules.{rules}
use Rattle.logs.proofs.Laws.{no_room, kept, written}
use Rattle.logs.proofs.held_in.Goals as goal

pub returns-then-out-ne512 : goal.returns-then-out-ne512
returns-then-out-ne512 c =
    let A = c.args in
    no_room A.s1.now A.b1.now A.s2.now A.b2.now A.tolerance A.out.now c.if-out-ne512.true

pub returns-in_err-n : goal.returns-in_err-n
returns-in_err-n c =
    let A = c.args in
    kept A.s1.now A.b1.now A.s2.now A.b2.now A.tolerance A.out.now c.if-out-ne512.false c.held-r.result c.held-r.ensures _ _ c.in_err-n.was (search rules)

pub returns : goal.returns
returns c =
    let A = c.args in
    written A.s1.now A.b1.now A.s2.now A.b2.now A.tolerance A.out.now c.if-out-ne512.false c.held-r.result c.held-r.ensures _ c.in_ok-n.was _ c.copy_from_slice.ensures.after
