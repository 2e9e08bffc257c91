-- `held` meets its contract: each return is an outcome of its definition.
use mathlib.Core.Path.{sym, ◌∙◌}
use Rattle.logs.proofs.Theorems.{log_fit}
use Rattle.logs.proofs.Laws.{unfit_first, unfit_second, first_falls, second_falls, both_fit}
use Rattle.logs.proofs.held.Goals as goal

pub returns-then-unfit : goal.returns-then-unfit
returns-then-unfit c =
    let A = c.args in
    c.refused.ensures ∙ unfit_first A.s1.now A.b1.now A.s2.now A.b2.now A.tolerance (sym c.unfit.ensures ∙ c.if-unfit.true)

pub returns-then-unfit-2 : goal.returns-then-unfit-2
returns-then-unfit-2 c =
    let A = c.args in
    c.refused-then-unfit-2.ensures ∙ unfit_second A.s1.now A.b1.now A.s2.now A.b2.now A.tolerance (sym c.unfit.ensures ∙ c.if-unfit.false) (sym c.unfit-2.ensures ∙ c.if-unfit-2.true)

pub returns-then-p-s1 : goal.returns-then-p-s1
returns-then-p-s1 c =
    let A = c.args in
    c.refused-then-p-s1.ensures ∙ first_falls A.s1.now A.b1.now A.s2.now A.b2.now A.tolerance (sym c.unfit.ensures ∙ c.if-unfit.false) (sym c.unfit-2.ensures ∙ c.if-unfit-2.false) _ c.rises-p.ensures c.if-p-s1.true

pub returns-then-q-s2 : goal.returns-then-q-s2
returns-then-q-s2 c =
    let A = c.args in
    c.refused-then-q-s2.ensures ∙ second_falls A.s1.now A.b1.now A.s2.now A.b2.now A.tolerance (sym c.unfit.ensures ∙ c.if-unfit.false) (sym c.unfit-2.ensures ∙ c.if-unfit-2.false) _ c.rises-p.ensures c.if-p-s1.false _ c.rises-q.ensures c.if-q-s2.true

pub found-requires : goal.found-requires
found-requires c =
    let A = c.args in
    let f = log_fit A.s1.now A.b1.now (sym c.unfit.ensures ∙ c.if-unfit.false) in
    let g = log_fit A.s2.now A.b2.now (sym c.unfit-2.ensures ∙ c.if-unfit-2.false) in
    (f.0, g.0, f.1, g.1)

pub returns : goal.returns
returns c =
    let A = c.args in
    both_fit A.s1.now A.b1.now A.s2.now A.b2.now A.tolerance (sym c.unfit.ensures ∙ c.if-unfit.false) (sym c.unfit-2.ensures ∙ c.if-unfit-2.false) _ c.rises-p.ensures c.if-p-s1.false _ c.rises-q.ensures c.if-q-s2.false c.found.result c.found.ensures
