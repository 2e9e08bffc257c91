-- `tinf_stage` meets its contract.
use Rattle.stages.proofs.Laws.{tinf_above, tinf_below}
use Rattle.stages.proofs.tinf_stage.Goals as goal

pub returns-then-z-d : goal.returns-then-z-d
returns-then-z-d c = let A = c.args in
    tinf_above A.sw A.z A.l
    c.pdl1-d.result
    c.ptm-m.result
    c.pt-p.result
    c.pdl1-d.ensures
    c.ptm-m.ensures
    c.pt-p.ensures
    c.if-z-d.true

pub returns : goal.returns
returns c = let A = c.args in
    tinf_below A.sw A.z A.l
    c.pdl1-d.result
    c.ptm-m.result
    c.pt-p.result
    c.pdl1-d.ensures
    c.ptm-m.ensures
    c.pt-p.ensures
    c.if-z-d.false
