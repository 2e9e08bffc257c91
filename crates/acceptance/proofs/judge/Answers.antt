-- `judge` meets its contract.
use Rattle.std.proofs.Common.{sym, ◌∙◌, ap}
use Rattle.std.specs.Prelude.{Err}
use Rattle.acceptance.specs.Acceptance.{judged_of}
use Rattle.acceptance.proofs.Judging.{unfit_field, history_lacking, outside_field, fit}
use Rattle.acceptance.proofs.judge.Goals as goal

pub returns-in-Some : goal.returns-in-Some
returns-in-Some c =
    ap Err c.at.ensures ∙ unfit_field c.args.w c.args.n _ (sym c.unfit.ensures ∙ c.in-Some.is)

pub returns-then-lacks_history : goal.returns-then-lacks_history
returns-then-lacks_history c =
    ap Err c.at-then-lacks_history.ensures ∙ history_lacking c.args.w c.args.n (sym c.unfit.ensures ∙ c.in_default.is) (sym c.lacks_history.ensures ∙ c.if-lacks_history.true)

pub returns-in-Some-outside : goal.returns-in-Some-outside
returns-in-Some-outside c =
    ap Err c.at-in-Some-outside.ensures ∙ outside_field c.args.w c.args.n (sym c.unfit.ensures ∙ c.in_default.is) (sym c.lacks_history.ensures ∙ c.if-lacks_history.false) _
    (sym c.outside.ensures ∙ c.in-Some-outside.is)

pub returns : goal.returns
returns c =
    fit c.args.w c.args.n (sym c.unfit.ensures ∙ c.in_default.is) (sym c.lacks_history.ensures ∙ c.if-lacks_history.false) (sym c.outside.ensures ∙ c.in_default-outside.is)
