-- `active` meets its contract.
use Rattle.expansion_values.specs.Activities.{active_from}
use Rattle.expansion_values.proofs.active.Goals as goal

pub returns : goal.returns
unfolding active_from
returns c = simp (c.apt_from-apt.ensures, c.pick-apdf.ensures)
