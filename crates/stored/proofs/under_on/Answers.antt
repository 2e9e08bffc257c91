-- `under_on` meets its contract.
use mathlib.Core.Path.{◌∙◌}
use Rattle.stored.proofs.under_on.Goals as goal

pub returns : goal.returns
returns c = c.put.ensures ∙ c.under_from-r.ensures
