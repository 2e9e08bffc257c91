-- `set_gravity` meets its contract.
use mathlib.Core.Path.{refl}
use Rattle.plan.specs.Fields.{set_gravity}
use Rattle.state_fields.proofs.set_gravity.Goals as goal

pub returns : goal.returns
unfolding set_gravity
returns c = refl
