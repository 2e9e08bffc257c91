-- `set_top3` meets its contract.
use mathlib.Core.Path.{refl}
use Rattle.plan.specs.Fields.{set_top3, set_tn3}
use Rattle.state_fields.proofs.set_top3.Goals as goal

pub returns : goal.returns
unfolding set_top3 set_tn3
returns c = refl
