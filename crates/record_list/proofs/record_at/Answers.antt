-- `record_at` meets its contract.
use native.Mathlib.Omega.{arith}
use Rattle.record_list.proofs.Laws.{seven_there, no_history, with_history}
use borrow.Author.Rules.{rules}
use Rattle.record_list.proofs.record_at.Goals as goal

pub returns-then-ap_arrays-eq0 : goal.returns-then-ap_arrays-eq0
returns-then-ap_arrays-eq0 c =
    let A = c.args in
    no_history A.days.now A.fields.now A.ap_arrays.now A.k c.record_of.result _ (search rules) c.if-ap_arrays-eq0.true c.record_of.ensures

pub slice_bounds-record_of-end-3 : goal.slice_bounds-record_of-end-3
slice_bounds-record_of-end-3 c =
    let seven = seven_there _ _ c.requires.0.1 c.if-ap_arrays-eq0.false in
    omega (arith, seven, c.requires.1)

pub returns : goal.returns
returns c =
    let A = c.args in
    with_history A.days.now A.fields.now A.ap_arrays.now A.k c.record_of-2.result _ (search rules) c.if-ap_arrays-eq0.false c.record_of-2.ensures
