-- `gather_step` meets its contract.
use mathlib.Core.Path.{ap, ◌∙◌}
use lib.Ieee.{Float}
use Rattle.plan.specs.Fields.{fields_of, with_fields}
use Rattle.stages.specs.Stages.{densu_sets}
use Rattle.model_state.proofs.gather_step.Goals as goal

pub place_at-p-requires : goal.place_at-p-requires
place_at-p-requires c = c.requires

pub gather-u-requires : goal.gather-u-requires
gather-u-requires c = (c.requires, c.place_at-p.ensures)

pub returns : goal.returns
returns c = let A = c.args in (c.gather-u.ensures, c.densu_sets-s1.ensures ∙ ap (λ (y : Float). with_fields A.s (densu_sets A.h y (fields_of A.s))) c.sqrt-a.ensures)
