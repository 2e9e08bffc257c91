-- `set_nodes1` meets its contract.
use mathlib.Core.Path.{refl}
use Rattle.plan.specs.Fields.{set_nodes1, set_tn1}
use Rattle.state_fields.proofs.set_nodes1.Goals as goal

pub returns : goal.returns
unfolding set_nodes1 set_tn1
returns c = refl
