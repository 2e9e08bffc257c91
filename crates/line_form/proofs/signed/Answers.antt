-- `signed` meets its contract.
use mathlib.Core.Path.{sym, ap, ◌∙◌}
use mathlib.Core.Bool.{Bool, false}
use Rattle.line_form.specs.Grammar.{with_sign}
use Rattle.line_form.proofs.Laws.{back, negated_fits, negated_is}
use Rattle.line_form.proofs.signed.Goals as goal

pub overflow_sub-result : goal.overflow_sub-result
overflow_sub-result c = negated_fits _ _ c.to_i32-z.ensures c.requires

pub returns-then-minus : goal.returns-then-minus
returns-then-minus c =
    let A = c.args in
    negated_is _ _ c.to_i32-z.ensures c.requires ∙ ap (λ (b : Bool). with_sign b A.size) (sym c.if-minus.true)

pub returns : goal.returns
returns c =
    let A = c.args in
    back false _ _ c.to_i32-z.ensures c.requires ∙ ap (λ (b : Bool). with_sign b A.size) (sym c.if-minus.false)
