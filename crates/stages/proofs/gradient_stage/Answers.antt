-- `gradient_stage` meets its contract.
use Rattle.stages.proofs.Laws.{gradient_above, gradient_below}
use Rattle.stages.proofs.gradient_stage.Goals as goal

pub returns-then-z : goal.returns-then-z
returns-then-z c = let A = c.args in
    gradient_above A.sw A.z A.l
    c.ptm-m.result
    c.ps-p.result
    c.ptm-m.ensures
    c.ps-p.ensures
    c.if-z.true

pub returns : goal.returns
returns c = let A = c.args in
    gradient_below A.sw A.z A.l
    c.ptm-m.result
    c.ps-p.result
    c.ptm-m.ensures
    c.ps-p.ensures
    c.if-z.false
