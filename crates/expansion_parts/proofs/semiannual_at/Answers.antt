-- `semiannual_at` meets its contract.
use mathlib.Core.Path.{sym, ◌∙◌, ap}
use lib.Ieee.{Float}
use Rattle.views.specs.Phases.{semiannual_cos_of}
use Rattle.expansion_parts.proofs.semiannual_at.Goals as goal

pub returns-then-plus_zero : goal.returns-then-plus_zero
returns-then-plus_zero c = let A = c.args in
    c.requires ∙ ap (λ (y : Float). semiannual_cos_of A.doy y) (sym (c.plus_zero.ensures.0 c.if-plus_zero.true))

pub returns : goal.returns
returns c = c.semiannual_cos.ensures
