-- `record_values_in` meets its contract.
use Rattle.views.specs.Shared.{shared}
use Rattle.expansion_values.specs.Sets.{record_values_given}
use Rattle.expansion_values.proofs.record_values_in.Goals as goal

pub expansion_values_of-l-requires : goal.expansion_values_of-l-requires
expansion_values_of-l-requires c = (shared _ _ _ c.view_of-v.ensures, c.requires)

pub returns : goal.returns
unfolding record_values_given
returns c = simp (c.expansion_values_of-l.ensures, c.view_of-v.ensures)
