-- `set_tn3` meets its contract.
use mathlib.Core.Path.{refl}
use Rattle.plan.specs.Fields.{set_tn3}
use Rattle.state_fields.proofs.set_tn3.Goals as goal

pub returns : goal.returns
unfolding set_tn3
returns c = refl
