-- `answer` meets its contract.
use Rattle.line_answer.proofs.Laws.{same_text, dnet_line, ccor_line, run_line, no_line}
use Rattle.line_answer.proofs.answer.Goals as goal

pub returns-then-a : goal.returns-then-a
returns-then-a c =
    same_text _ _ _ _ _ _ (dnet_line _ _ _ c.dnet_form-a.ensures _ c.if-a.true c.dnet_value.ensures) c.value.ensures

pub returns-then-b : goal.returns-then-b
returns-then-b c =
    same_text _ _ _ _ _ _
    (ccor_line _ _ _ c.dnet_form-a.ensures c.if-a.false _ c.ccor_form-b.ensures _ c.if-b.true c.ccor_value.ensures)
    c.value-then-b.ensures

pub returns-then-q : goal.returns-then-q
returns-then-q c =
    same_text _ _ _ _ _ _
    (run_line _ _ _ c.dnet_form-a.ensures c.if-a.false _ c.ccor_form-b.ensures c.if-b.false _ c.run_form-c.ensures
    c.if-q.true)
    c.run.ensures

pub returns : goal.returns
returns c =
    same_text _ _ _ _ _ _
    (no_line _ _ _ c.dnet_form-a.ensures c.if-a.false _ c.ccor_form-b.ensures c.if-b.false _ c.run_form-c.ensures
    c.if-q.false)
    c.refused.ensures
