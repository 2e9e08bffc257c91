-- `taken` meets its contract.
use mathlib.Core.Path.{refl}
use Rattle.first_below_list.specs.FirstBelowList.{is_below}
use Rattle.first_below_list.proofs.taken.Goals as goal

pub returns-then-thin : goal.returns-then-thin
unfolding is_below
returns-then-thin c = (refl, rw c.if-thin.true c.copy_from_slice.ensures.after)

pub returns-else-thin : goal.returns-else-thin
unfolding is_below
returns-else-thin c = (refl, rw c.if-thin.false)
