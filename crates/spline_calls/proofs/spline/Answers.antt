-- `spline` meets its contract: the check's refusal with the slice as it was, or else the numbers in it.
use mathlib.Core.Path.{ap, ◌∙◌}
use borrow.Author.Rules.{rules}
use mathlib.Core.List.{◌++◌}
use lib.ListN.{take, drop}
use Rattle.spline.specs.Sweep.{spline_of}
use Rattle.spline_calls.specs.Outcome.{gives}
use Rattle.spline_calls.specs.Calls.{spline_call}
use Rattle.spline_calls.proofs.Accept.{goes_on, left_with_lem, write_stops}
use Rattle.spline_calls.proofs.spline.Goals as goal

pub returns-in_err-check_nodes : goal.returns-in_err-check_nodes
unfolding spline_call
returns-in_err-check_nodes c =
    let w = write_stops _ _ _ _ _ c.args.y2.now _ c.from_residual.result (search rules) c.in_err-check_nodes.ensures.outcome in
    record { y2_after = w.0; y2_after_2 = w.1 }

pub returns : goal.returns
unfolding spline_call
returns c =
    let e = rw c.second-v.ensures at c.put.ensures in
    let g = goes_on (gives (take c.args.n (spline_of c.args.x.now c.args.y.now c.args.n c.args.yp1 c.args.ypn) ++ drop c.args.n c.args.y2.now)) _ _ _ _ _ c.in_ok-check_nodes.ensures.outcome in
    record { y2_after = ap gives e ∙ g; y2_after_2 = left_with_lem _ _ _ _ g e }
