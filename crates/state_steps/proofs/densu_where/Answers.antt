-- `densu_where` meets its contract.
use Rattle.stages.specs.Stages.{densu_sets}
use Rattle.state_fields.proofs.Made.{made, not_made}
use Rattle.state_steps.proofs.densu_where.Goals as goal

pub returns-then-on : goal.returns-then-on
returns-then-on c = let A = c.args in made A.s _ A.on (densu_sets A.h A.z) c.if-on.true c.densu_sets.ensures

pub returns : goal.returns
returns c = let A = c.args in not_made A.s A.on (densu_sets A.h A.z) c.if-on.false
