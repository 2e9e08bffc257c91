-- `expansion_values_of` meets its contract.
use mathlib.Core.Path.{◌∙◌, ap}
use mathlib.Core.List.{List}
use lib.Ieee.{Float}
use Rattle.tables.specs.Tables.{pd_t7}
use Rattle.expansion_values.specs.Activities.{activity_in, in_pd7}
use Rattle.expansion_values.proofs.Laws.{after_set, expansion_values_law}
use Rattle.expansion_values.proofs.expansion_values_of.Goals as goal

pub globe7_values-x-requires : goal.globe7_values-x-requires
globe7_values-x-requires c =
    let k = c.activity_by-k.ensures ∙ ap (λ (t : List Float). activity_in c.args.v t) c.pt-t.ensures in
    (c.requires.0, k, after_set c.args.v pd_t7 _ _ _ _ c.active-c7.ensures c.pd7-p7.ensures (k ∙ in_pd7 c.args.v), c.requires.1)

pub glob7s_values-y-requires : goal.glob7s_values-y-requires
glob7s_values-y-requires c = (c.requires.0, c.activity_by-k.ensures ∙ ap (λ (t : List Float). activity_in c.args.v t) c.pt-t.ensures, c.requires.1)

pub returns : goal.returns
returns c =
    let v = c.args.v in
    expansion_values_law v c.args.n c.args.s.now _ _ _ _ _
    c.glob7s_values-y.ensures
    c.globe7_values-x.ensures
    (after_set v pd_t7 _ _ _ _ c.active-c7.ensures c.pd7-p7.ensures (c.activity_by-k.ensures ∙ ap (λ (t : List Float). activity_in v t) c.pt-t.ensures ∙ in_pd7 v))
    c.quiet-c.ensures
    c.legendre_in-g.ensures
