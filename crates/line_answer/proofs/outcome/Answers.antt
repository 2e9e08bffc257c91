-- `outcome` meets its contract.
use mathlib.Core.Path.{sym, ap, ◌∙◌}
use Prim.Native.Nat.{ℕ}
use Rattle.refusals.specs.Refusals.{Answer}
use Rattle.line_text.specs.Text.{refused_text}
use Rattle.line_answer.specs.Answer.{outcome_text}
use Rattle.line_answer.proofs.Laws.{same_text}
use Rattle.line_answer.proofs.outcome.Goals as goal

pub returns-in-Ok : goal.returns-in-Ok
returns-in-Ok c = same_text _ _ _ _ _ _ (ap (λ (q : Answer). outcome_text q c.args.eleven) (sym c.in-Ok.is)) c.row.ensures

pub returns-in-Err : goal.returns-in-Err
returns-in-Err c =
    same_text _ _ _ _ _ _ (ap (λ (k : ℕ). refused_text k c.in-Err.r.place) c.number.ensures ∙ ap (λ (q : Answer). outcome_text q c.args.eleven) (sym c.in-Err.is)) c.refused.ensures
