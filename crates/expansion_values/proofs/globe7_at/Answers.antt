-- `globe7_at` meets its contract.
use Rattle.expansion_values.proofs.Laws.{globe7_at_law}
use Rattle.expansion_values.proofs.globe7_at.Goals as goal

pub returns-then-on : goal.returns-then-on
returns-then-on c =
    let A = c.args in
    let on = c.if-on.true in
    rw (on, ← c.seasons_at-d.ensures) (globe7_at_law A.k A.v A.g A.c A.c7 c.globe7_activity-b.result _ c.seasons_at-d.result _ _ _ _ _ _
    c.globe7_with.ensures
    c.apt_from-apt.ensures
    c.pick-before.ensures
    c.pick-apdf.ensures
    c.latitude_in-latitude.ensures
    c.nine_in-nine.ensures
    c.globe7_activity-b.ensures
    c.requires.4
    (c.requires.2 on))

pub returns : goal.returns
returns c = simp c.if-on.false
