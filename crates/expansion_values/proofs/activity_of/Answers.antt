-- `activity_of` meets its contract.
use Rattle.expansion_values.specs.Activities.{activity_of}
use Rattle.expansion_values.proofs.activity_of.Goals as goal

pub returns-then-sw9 : goal.returns-then-sw9
unfolding activity_of
returns-then-sw9 c = simp (← c.responses_to-g.ensures) (simp c.if-sw9.true)

pub returns : goal.returns
unfolding activity_of
returns c = simp (← c.apdf_from-apdf.ensures) (simp c.if-sw9.false)
