-- `over_on` meets its contract.
use mathlib.Core.Path.{◌∙◌}
use Rattle.stored.proofs.over_on.Goals as goal

pub returns : goal.returns
returns c = c.put.ensures ∙ c.over_from-r.ensures
