-- `parts_gsurf` meets its contract.
use mathlib.Core.Path.{ap}
use Rattle.profile.specs.declared.gravity.Gravity.{Gravity}
use Rattle.oracle_parts.proofs.parts_gsurf.Goals as goal

pub returns : goal.returns
returns c = ap (λ (g : Gravity). g.gsurf) c.glatf-g.ensures
