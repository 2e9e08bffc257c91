-- `local` meets its contract.
use mathlib.Core.Path.{sym, ◌∙◌, ap}
use lib.Ieee.{Float}
use Rattle.views.specs.Phases.{local_cos_of}
use Rattle.expansion_parts.proofs.local.Goals as goal

pub returns-then-plus_zero : goal.returns-then-plus_zero
returns-then-plus_zero c = let A = c.args in
    c.requires.local ∙ ap (λ (y : Float). local_cos_of A.v.lst y) (sym (c.plus_zero.ensures.0 c.if-plus_zero.true))

pub returns : goal.returns
returns c = c.local_cos.ensures
