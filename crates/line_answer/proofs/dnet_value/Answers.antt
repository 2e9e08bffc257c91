-- `dnet_value` meets its contract.
use Rattle.line_answer.specs.Answer.{dnet_value}
use Rattle.line_answer.proofs.dnet_value.Goals as goal

pub returns : goal.returns
unfolding dnet_value
returns c = simp (← c.dnet.ensures, ← c.thousandths_at-xm.ensures, ← c.thousandths_at-xmm.ensures, ← c.thousandths_at-zhm.ensures, ← c.thousandths_at-dm.ensures, ← c.thousandths_at-dd.ensures)
