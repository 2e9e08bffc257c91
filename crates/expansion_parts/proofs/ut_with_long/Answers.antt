-- `ut_with_long` meets its contract.
use mathlib.Core.Path.{sym, ◌∙◌, ap}
use lib.Ieee.{Float}
use Rattle.views.specs.Phases.{ut_long_cos_of}
use Rattle.expansion_parts.proofs.ut_with_long.Goals as goal

pub returns-then-plus_zero : goal.returns-then-plus_zero
returns-then-plus_zero c = let A = c.args in
    c.requires.ut_long ∙ ap (λ (y : Float). ut_long_cos_of A.v.sec y A.v.g_long) (sym (c.plus_zero.ensures.0 c.if-plus_zero.true))

pub returns : goal.returns
returns c = c.ut_long_cos.ensures
