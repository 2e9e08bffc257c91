-- `positive` meets its contract.
use mathlib.Core.Path.{◌∙◌}
use Rattle.line_form.proofs.Laws.{not_a_digit, a_zero, some_digits}
use Rattle.line_form.proofs.positive.Goals as goal

pub returns-in_err-d-clause-value : goal.returns-in_err-d-clause-value
returns-in_err-d-clause-value c = c.from_residual.ensures ∙ not_a_digit _ _ _ c.in_err-d.ensures.value

pub returns-then-d-eq0-clause-value : goal.returns-then-d-eq0-clause-value
returns-then-d-eq0-clause-value c = a_zero _ _ _ _ c.in_ok-d.ensures.value c.if-d-eq0.true

pub returns : goal.returns
returns c =
    record {
      value = some_digits _ _ _ _ c.in_ok-d.ensures.value c.if-d-eq0.false _ _ c.more-w.ensures.0 c.more-w.ensures.1 c.signed-z.ensures;
      bound = c.more-w.ensures.2;
    }
