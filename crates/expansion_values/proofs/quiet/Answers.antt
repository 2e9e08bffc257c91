-- `quiet` meets its contract.
use Rattle.expansion_values.specs.ExpansionValues.{quiet_of}
use Rattle.expansion_values.proofs.quiet.Goals as goal

pub returns : goal.returns
unfolding quiet_of
returns c = simp (c.turns_after-t.ensures, c.fresh-s.ensures)
