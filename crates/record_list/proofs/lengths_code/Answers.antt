-- `lengths_code` meets its contract.
use mathlib.Core.Path.{ap}
use mathlib.Core.Bool.{Bool, not, ◌&&◌}
use lib.Dec.{eqb}
use Rattle.record_list.proofs.Laws.{short_rows, short_answers, wrong_fields, wrong_histories, wrong_switches, all_right}
use Rattle.record_list.proofs.lengths_code.Goals as goal

pub returns-then-no_room : goal.returns-then-no_room
returns-then-no_room c =
    short_rows _ _ _ _ _ _ c.no_room.result _ c.no_room.ensures c.if-no_room.true c.length_needed.ensures

pub returns-then-answers-count : goal.returns-then-answers-count
returns-then-answers-count c =
    short_answers _ _ _ _ _ _ c.no_room.result c.no_room.ensures c.if-no_room.false _ c.if-answers-count.true c.length_needed-then-answers-count.ensures

pub returns-then-not_eight : goal.returns-then-not_eight
returns-then-not_eight c =
    wrong_fields _ _ _ _ _ _ c.no_room.result c.no_room.ensures c.if-no_room.false c.if-answers-count.false
    c.not_eight.result _ c.not_eight.ensures c.if-not_eight.true c.length_needed-then-not_eight.ensures

pub returns-then-ap_arrays-not_seven : goal.returns-then-ap_arrays-not_seven
returns-then-ap_arrays-not_seven c =
    let A = c.args in
    wrong_histories _ _ _ _ _ _ c.no_room.result c.no_room.ensures c.if-no_room.false c.if-answers-count.false
    c.not_eight.result c.not_eight.ensures c.if-not_eight.false
    _ _ (ap (λ (x : Bool). not (eqb A.ap_arrays 0) && x) c.not_seven.ensures) c.if-ap_arrays-not_seven.true c.length_needed-then-ap_arrays-not_seven.ensures

pub returns-then-switches-ne24 : goal.returns-then-switches-ne24
returns-then-switches-ne24 c =
    let A = c.args in
    wrong_switches _ _ _ _ _ _ c.no_room.result c.no_room.ensures c.if-no_room.false c.if-answers-count.false
    c.not_eight.result c.not_eight.ensures c.if-not_eight.false
    _ (ap (λ (x : Bool). not (eqb A.ap_arrays 0) && x) c.not_seven.ensures) c.if-ap_arrays-not_seven.false _ c.if-switches-ne24.true c.length_needed-then-switches-ne24.ensures

pub returns : goal.returns
returns c =
    let A = c.args in
    all_right _ _ _ _ _ _ c.no_room.result c.no_room.ensures c.if-no_room.false c.if-answers-count.false
    c.not_eight.result c.not_eight.ensures c.if-not_eight.false
    _ (ap (λ (x : Bool). not (eqb A.ap_arrays 0) && x) c.not_seven.ensures) c.if-ap_arrays-not_seven.false c.if-switches-ne24.false
