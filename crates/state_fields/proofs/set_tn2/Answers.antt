-- `set_tn2` meets its contract.
use mathlib.Core.Path.{refl}
use Rattle.plan.specs.Fields.{set_tn2}
use Rattle.state_fields.proofs.set_tn2.Goals as goal

pub returns : goal.returns
unfolding set_tn2
returns c = refl
