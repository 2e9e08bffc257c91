-- `apdf_next` meets its contract.
use Rattle.activity.specs.Activity.{apdf_next_of}
use Rattle.activity.proofs.apdf_next.Goals as goal

pub returns-then-sw9 : goal.returns-then-sw9
unfolding apdf_next_of
returns-then-sw9 c = simp c.if-sw9.true

pub returns : goal.returns
unfolding apdf_next_of
returns c = simp (← c.apdf_from.ensures) (simp c.if-sw9.false)
