-- `densm` meets its contract: set 2 refused, set 3 refused, and the answer.
use mathlib.Core.Path.{ap, ◌∙◌}
use borrow.Author.Rules.{rules}
use Rattle.spline_calls.specs.Outcome.{gives}
use Rattle.profile_calls.specs.Calls.{densm_call}
use Rattle.profile_calls.proofs.Checked.{set_stops, set_goes_on}
use Rattle.profile_calls.proofs.densm.Goals as goal

pub returns-in_err-check_set : goal.returns-in_err-check_set
unfolding densm_call
returns-in_err-check_set c = set_stops _ _ _ _ _ _ _ _ (search rules) c.in_err-check_set.ensures.outcome

pub returns-in_err-check_set-2 : goal.returns-in_err-check_set-2
unfolding densm_call
returns-in_err-check_set-2 c =
    set_stops _ _ _ _ _ _ _ _ (search rules) c.in_err-check_set-2.ensures.outcome ∙ set_goes_on _ _ _ _ _ _ _ c.in_ok-check_set.ensures.outcome

pub returns : goal.returns
unfolding densm_call
returns c =
    ap gives c.densm-p.ensures ∙ set_goes_on _ _ _ _ _ _ _ c.in_ok-check_set-2.ensures.outcome ∙ set_goes_on _ _ _ _ _ _ _ c.in_ok-check_set.ensures.outcome
