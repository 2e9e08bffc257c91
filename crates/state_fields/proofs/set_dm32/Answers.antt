-- `set_dm32` meets its contract.
use mathlib.Core.Path.{refl}
use Rattle.plan.specs.Fields.{set_dm32}
use Rattle.state_fields.proofs.Made.{made, not_made}
use Rattle.state_fields.proofs.set_dm32.Goals as goal

pub returns-then-on : goal.returns-then-on
unfolding set_dm32
returns-then-on c = let A = c.args in made A.s _ A.on (set_dm32 A.x) c.if-on.true refl

pub returns : goal.returns
returns c = let A = c.args in not_made A.s A.on (set_dm32 A.x) c.if-on.false
