-- `some_mixed` meets its contract.
use Rattle.mixing_limits.specs.Limits.{some_mixed}
use Rattle.mixing_limits.proofs.some_mixed.Goals as goal

pub returns : goal.returns
unfolding some_mixed
returns c = simp (← c.oxygens_mixed-four.ensures)
