-- `state_with` meets its contract.
use mathlib.Core.Path.{refl}
use Rattle.oracle_expansion.specs.OracleExpansion.{state_with}
use Rattle.oracle_expansion.proofs.state_with.Goals as goal

pub returns : goal.returns
unfolding state_with
returns c = refl
