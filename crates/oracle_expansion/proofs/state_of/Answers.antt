-- `state_of` meets its contract.
use mathlib.Core.Path.{◌∙◌, ap}
use Rattle.oracle_expansion.specs.OracleExpansion.{state_with}
use Rattle.oracle_expansion.proofs.state_of.Goals as goal

pub returns : goal.returns
returns c = c.state_with.ensures ∙ ap (state_with c.args.x.now) c.legendre-g.ensures
