-- `parts_re` meets its contract.
use mathlib.Core.Path.{ap}
use Rattle.profile.specs.declared.gravity.Gravity.{Gravity}
use Rattle.oracle_parts.proofs.parts_re.Goals as goal

pub returns : goal.returns
returns c = ap (λ (g : Gravity). g.re) c.glatf-g.ensures
