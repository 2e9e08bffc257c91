-- `mixing_at` meets its contract.
use Rattle.species.specs.Rooted.{mixing_of}
use Rattle.species.proofs.mixing_at.Goals as goal

pub returns-then-on : goal.returns-then-on
unfolding mixing_of
returns-then-on c = simp (← c.thin.ensures) (simp c.if-on.true)

pub returns : goal.returns
unfolding mixing_of
returns c = simp c.if-on.false
