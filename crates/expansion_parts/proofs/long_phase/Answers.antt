-- `long_phase` meets its contract.
use mathlib.Core.Path.{sym, ◌∙◌, ap}
use lib.Ieee.{Float}
use Rattle.views.specs.Phases.{long_phase_cos_of}
use Rattle.expansion_parts.proofs.long_phase.Goals as goal

pub returns-then-plus_zero : goal.returns-then-plus_zero
returns-then-plus_zero c = let A = c.args in
    c.requires.long ∙ ap (λ (y : Float). long_phase_cos_of A.v.g_long y) (sym (c.plus_zero.ensures.0 c.if-plus_zero.true))

pub returns : goal.returns
returns c = c.long_phase_cos.ensures
