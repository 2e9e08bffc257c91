-- `globe7_values` meets its contract: at each turn the rest of the filling gives the whole list.
use mathlib.Core.Path.{refl, ◌∙◌, sym}
use borrow.Author.Rules.{rules}
use Rattle.setting.proofs.Fill.{filled_more, filled_done}
use Rattle.expansion_values.specs.Sets.{globe7_at_given, globe7_values_given}
use Rattle.expansion_values.proofs.globe7_values.Goals as goal

pub loop-k-init : goal.loop-k-init
loop-k-init c = (refl, refl)

pub slice_bounds-globe7_at-end : goal.slice_bounds-globe7_at-end
slice_bounds-globe7_at-end c = search (rules, c.put_needed_set.ensures.0)

pub globe7_at-requires : goal.globe7_at-requires
globe7_at-requires c =
    let e = c.put_needed_set.ensures in
    (e.0, c.requires.0, e.1, c.requires.1, c.requires.2, search rules, c.requires.3)

pub loop-k-preserved : goal.loop-k-preserved
loop-k-preserved c =
    let l = c.loop-k in
    let A = c.args in
    (c.put_needed_set.ensures.0, rw (c.globe7_at.ensures, c.globe7_needed-on.ensures) (filled_more 11 (globe7_at_given A.n A.v A.g A.c A.s.now) l.k l.x (search rules) ∙ l.invariant.1))

pub returns : goal.returns
unfolding globe7_values_given
returns c =
    let l = c.loop-k in
    let A = c.args in
    sym (filled_done 11 (globe7_at_given A.n A.v A.g A.c A.s.now) l.k l.x (search rules)) ∙ l.invariant.1
