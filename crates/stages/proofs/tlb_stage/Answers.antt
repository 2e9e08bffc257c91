-- `tlb_stage` meets its contract.
use Rattle.stages.proofs.Laws.{tlb_law}
use Rattle.stages.proofs.tlb_stage.Goals as goal

pub returns : goal.returns
returns c = let A = c.args in
    tlb_law A.sw A.l
    c.ptm-m.result
    c.pd3-p.result
    c.ptm-m.ensures
    c.pd3-p.ensures
