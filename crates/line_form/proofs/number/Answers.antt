-- `number` meets its contract.
use mathlib.Core.Path.{◌∙◌}
use native.Mathlib.Omega.{arith}
use Rattle.line_form.proofs.Laws.{here_inside, nought, below_nought, above_nought}
use Rattle.line_form.proofs.number.Goals as goal

pub returns-then-here : goal.returns-then-here
returns-then-here c =
    let h = here_inside _ _ _ _ c.here.ensures c.if-here.true in
    record { value = nought _ _ _ c.here.ensures c.if-here.true; bound = omega arith }

pub positive-requires : goal.positive-requires
positive-requires c =
    let h = here_inside _ _ _ _ c.here-2.ensures c.if-here-2.true in
    omega arith

pub returns-then-here-2 : goal.returns-then-here-2
returns-then-here-2 c =
    record { value = c.positive.ensures.value ∙ below_nought _ _ _ c.here.ensures c.if-here.false _ c.here-2.ensures c.if-here-2.true; bound = c.positive.ensures.bound }

pub returns : goal.returns
returns c =
    record { value = c.positive-2.ensures.value ∙ above_nought _ _ _ c.here.ensures c.if-here.false _ c.here-2.ensures c.if-here-2.false; bound = c.positive-2.ensures.bound }
