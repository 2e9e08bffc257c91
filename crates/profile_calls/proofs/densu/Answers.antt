-- `densu` meets its contract: refused, with both slices as they were, and the answer with both slices.
use mathlib.Core.Path.{refl, ap, ◌∙◌}
use borrow.Author.Rules.{rules}
use Rattle.spline_calls.specs.Outcome.{gives}
use Rattle.spline_calls.proofs.Accept.{left_alone, left_with_lem}
use Rattle.profile_calls.specs.Calls.{densu_call, densu_tn1, densu_tgn1}
use Rattle.profile_calls.proofs.Checked.{set_stops, set_goes_on}
use Rattle.profile_calls.proofs.densu.Goals as goal

pub returns-in_err-check_set : goal.returns-in_err-check_set
unfolding densu_call densu_tn1 densu_tgn1
returns-in_err-check_set c =
    let h = c.in_err-check_set.ensures.outcome in
    record {
      result_value = set_stops _ _ _ _ _ _ _ _ (search rules) h;
      tn1_after = left_alone _ _ _ (set_stops _ _ _ _ _ _ _ _ refl h);
      tgn1_after = left_alone _ _ _ (set_stops _ _ _ _ _ _ _ _ refl h);
    }

pub returns : goal.returns
unfolding densu_call densu_tn1 densu_tgn1
returns c =
    let e = c.densu-a.ensures in
    let h = c.in_ok-check_set.ensures.outcome in
    record {
      result_value = ap gives e.value ∙ set_goes_on _ _ _ _ _ _ _ h;
      tn1_after = left_with_lem _ _ _ _ (set_goes_on _ _ _ _ _ _ _ h) e.tn1_after;
      tgn1_after = left_with_lem _ _ _ _ (set_goes_on _ _ _ _ _ _ _ h) e.tgn1_after;
    }
