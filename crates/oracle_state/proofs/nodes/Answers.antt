-- `nodes` meets its contract.
use Rattle.oracle_state.specs.OracleState.{node_numbers}
use mathlib.Core.Path.{refl}
use Rattle.oracle_state.proofs.nodes.Goals as goal

pub returns : goal.returns
unfolding node_numbers
returns c = refl
