-- `ccor_value` meets its contract.
use Rattle.line_answer.specs.Answer.{ccor_value}
use Rattle.line_answer.proofs.ccor_value.Goals as goal

pub returns : goal.returns
unfolding ccor_value
returns c = simp (← c.ccor.ensures, ← c.thousandths_at-zh.ensures, ← c.thousandths_at-h1.ensures, ← c.thousandths_at-rate.ensures, ← c.thousandths_at-alt.ensures)
