-- `set_dd` meets its contract.
use mathlib.Core.Path.{refl}
use Rattle.plan.specs.Fields.{set_dd}
use Rattle.state_fields.proofs.set_dd.Goals as goal

pub returns : goal.returns
unfolding set_dd
returns c = refl
