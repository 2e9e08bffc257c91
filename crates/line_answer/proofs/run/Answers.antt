-- `run` meets its contract.
use Rattle.line_answer.proofs.Laws.{same_text, run_is}
use borrow.Author.Rules.{rules}
use Rattle.line_answer.proofs.run.Goals as goal

pub returns : goal.returns
returns c =
    same_text _ _ _ _ _ _
    (run_is _ _ _ _ _ _ c.switches_of-w.ensures c.input_of-n.ensures (search rules) c.gtd7-a.ensures.0 c.gtd7-a.ensures.1)
    c.outcome.ensures
