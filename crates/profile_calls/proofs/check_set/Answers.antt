-- `check_set` meets its contract: the count, the nodes, the gradients.
use borrow.Author.Rules.{rules}
use borrow.Author.Tests.{lt-ltb, le-ltb}
use Rattle.spline_calls.proofs.Accept.{count_stops, count_goes_on}
use Rattle.profile_calls.specs.Calls.{checked}
use Rattle.profile_calls.proofs.check_set.Goals as goal

pub returns-in_err-check_count-clause-outcome : goal.returns-in_err-check_count-clause-outcome
unfolding checked
returns-in_err-check_count-clause-outcome c = count_stops _ _ _ _ _ (search rules) c.in_err-check_count.ensures.outcome

pub returns-then-zn-n-clause-outcome : goal.returns-then-zn-n-clause-outcome
unfolding checked
returns-then-zn-n-clause-outcome c = simp c.if-zn-n.true (count_goes_on _ _ _ _ c.in_ok-check_count.ensures.outcome)

pub returns-then-tgn-lt2-clause-outcome : goal.returns-then-tgn-lt2-clause-outcome
unfolding checked
returns-then-tgn-lt2-clause-outcome c = simp (c.if-zn-n.false, lt-ltb _ _ c.if-tgn-lt2.true) (count_goes_on _ _ _ _ c.in_ok-check_count.ensures.outcome)

pub returns-clause-outcome : goal.returns-clause-outcome
unfolding checked
returns-clause-outcome c = simp (c.if-zn-n.false, le-ltb _ _ c.if-tgn-lt2.false) c.in_ok-check_count.ensures.outcome
