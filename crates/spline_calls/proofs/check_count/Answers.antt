-- `check_count` meets its contract.
use Rattle.spline_calls.specs.Outcome.{counted}
use Rattle.spline_calls.proofs.check_count.Goals as goal

pub returns-then-n-most-clause-outcome : goal.returns-then-n-most-clause-outcome
unfolding counted
returns-then-n-most-clause-outcome c = simp c.if-n-most.true

pub returns-clause-outcome : goal.returns-clause-outcome
unfolding counted
returns-clause-outcome c = simp c.if-n-most.false
