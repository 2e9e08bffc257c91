-- `gtd7d` meets its contract: refused, the row is kept; accepted, it is gtd7's with d[5] replaced.
use Rattle.std.specs.Prelude.{Err}
use Rattle.std.proofs.Common.{sym, ap, ◌∙◌, arith, rules}
use Rattle.std.proofs.lemmas.Result.{err_from_is_err_and}
use Rattle.refusals.specs.Refusals.{accepted_of}
use Rattle.atmosphere.proofs.Laws.{accepted_length}
use Rattle.drag.proofs.Laws.{kept, replaced}
use Rattle.drag.proofs.gtd7d.Goals as goal

pub returns-in_err-gtd7 : goal.returns-in_err-gtd7
returns-in_err-gtd7 c =
    let p = err_from_is_err_and c.from_residual.result c.from_residual.ensures.1 in
    let g = c.in_err-gtd7.ensures in
    (p.1 ∙ ap Err p.2 ∙ g.0, g.1 ∙ kept _ _ _ (sym (ap accepted_of g.0)))

pub drag_on-requires : goal.drag_on-requires
drag_on-requires c =
    let h = accepted_length _ _ _ (sym (ap accepted_of c.in_ok-gtd7.ensures.0)) in
    omega (arith, h)

pub returns : goal.returns
returns c =
    let g = c.in_ok-gtd7.ensures in
    (g.0, replaced _ _ _ _ _ _ c.drag_on.ensures (search rules) g.1 (sym (ap accepted_of g.0)))
