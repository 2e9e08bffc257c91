-- `glob7s_from` meets its contract.
use Rattle.expansion.specs.Expansion.{glob7s_from_given}
use Rattle.expansion.proofs.glob7s_from.Goals as goal

pub returns-then-p99 : goal.returns-then-p99
unfolding glob7s_from_given
returns-then-p99 c = simp (← c.pick-p99.ensures) (simp (c.if-p99.true))

pub returns : goal.returns
unfolding glob7s_from_given
returns c = simp (← c.glob7s_value.ensures, ← c.pick-p99.ensures) (simp (c.if-p99.false))
