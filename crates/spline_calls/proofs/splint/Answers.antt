-- `splint` meets its contract: the check's refusal, or else the value.
use mathlib.Core.Path.{ap, ◌∙◌}
use borrow.Author.Rules.{rules}
use Rattle.spline_calls.specs.Outcome.{gives}
use Rattle.spline_calls.specs.Calls.{splint_call}
use Rattle.spline_calls.proofs.Accept.{stops_at, goes_on}
use Rattle.spline_calls.proofs.splint.Goals as goal

pub returns-in_err-check_nodes : goal.returns-in_err-check_nodes
unfolding splint_call
returns-in_err-check_nodes c = stops_at _ _ _ _ _ _ _ (search rules) c.in_err-check_nodes.ensures.outcome

pub returns : goal.returns
unfolding splint_call
returns c = ap gives c.splint-y.ensures ∙ goes_on _ _ _ _ _ _ c.in_ok-check_nodes.ensures.outcome
