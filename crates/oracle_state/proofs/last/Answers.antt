-- `last` meets its contract.
use Rattle.oracle_state.specs.OracleState.{last_numbers}
use mathlib.Core.Path.{refl}
use Rattle.oracle_state.proofs.last.Goals as goal

pub returns : goal.returns
unfolding last_numbers
returns c = refl
