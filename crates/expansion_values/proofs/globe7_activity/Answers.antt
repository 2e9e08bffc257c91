-- `globe7_activity` meets its contract.
use mathlib.Core.Path.{◌∙◌, ap}
use mathlib.Core.List.{List}
use lib.Ieee.{Float}
use Rattle.needed_sets.specs.Sets.{globe7_sets}
use Rattle.expansion_values.specs.Activities.{activity_in}
use Rattle.expansion_values.proofs.Laws.{own_activity, shared_activity}
use Rattle.expansion_values.proofs.globe7_activity.Goals as goal

pub returns-then-k-eq1 : goal.returns-then-k-eq1
unfolding globe7_sets
returns-then-k-eq1 c = let A = c.args in
    c.activity_by.ensures ∙ ap (λ (t : List Float). activity_in A.v t) c.pd0-p.ensures ∙ own_activity A.v A.k 1 c.if-k-eq1.true

pub returns-then-k-eq2 : goal.returns-then-k-eq2
unfolding globe7_sets
returns-then-k-eq2 c = let A = c.args in
    c.activity_by-then-k-eq2.ensures ∙ ap (λ (t : List Float). activity_in A.v t) c.pd1-p.ensures ∙ own_activity A.v A.k 2 c.if-k-eq2.true

pub returns : goal.returns
returns c = let A = c.args in
    c.requires ∙ shared_activity A.v A.k c.if-k-eq1.false c.if-k-eq2.false
