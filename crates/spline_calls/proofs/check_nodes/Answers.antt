-- `check_nodes` meets its contract: the count, then the lengths.
use borrow.Author.Rules.{rules}
use Rattle.spline_calls.specs.Calls.{three_long}
use Rattle.spline_calls.proofs.Accept.{count_stops, count_goes_on}
use Rattle.spline_calls.proofs.check_nodes.Goals as goal

pub returns-in_err-check_count-clause-outcome : goal.returns-in_err-check_count-clause-outcome
unfolding three_long
returns-in_err-check_count-clause-outcome c = count_stops _ _ _ _ _ (search rules) c.in_err-check_count.ensures.outcome

pub returns-then-a-n-clause-outcome : goal.returns-then-a-n-clause-outcome
unfolding three_long
returns-then-a-n-clause-outcome c = simp c.if-a-n.true (count_goes_on _ _ _ _ c.in_ok-check_count.ensures.outcome)

pub returns-clause-outcome : goal.returns-clause-outcome
unfolding three_long
returns-clause-outcome c = simp c.if-a-n.false c.in_ok-check_count.ensures.outcome
