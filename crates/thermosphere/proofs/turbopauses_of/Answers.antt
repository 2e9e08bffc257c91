-- `turbopauses_of` meets its contract.
use mathlib.Core.Path.{◌∙◌}
use Rattle.mixing_limits.specs.Limits.{oxygens_mixed}
use Rattle.tables.specs.Tables.{pdm_t0, pdm_t1, pdm_t5}
use Rattle.thermosphere.proofs.Laws.{in_row}
use Rattle.thermosphere.proofs.turbopauses_of.Goals as goal

pub turbopause-he-requires : goal.turbopause-he-requires
turbopause-he-requires c = c.requires

pub turbopause-o-requires : goal.turbopause-o-requires
turbopause-o-requires c = c.requires

pub turbopause-hy-requires : goal.turbopause-hy-requires
turbopause-hy-requires c = c.requires

pub returns : goal.returns
returns c = let A = c.args in (
  in_row A.h A.m.he _ _ pdm_t0 c.turbopause-he.ensures c.pdm0-m0.ensures,
  in_row A.h (oxygens_mixed A.m) _ _ pdm_t1 (λ o. c.turbopause-o.ensures (c.oxygens_mixed-four.ensures ∙ o)) c.pdm1-m1.ensures,
  in_row A.h A.m.h _ _ pdm_t5 c.turbopause-hy.ensures c.pdm5-m5.ensures,
)
