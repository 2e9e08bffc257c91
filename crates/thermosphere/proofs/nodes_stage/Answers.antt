-- `nodes_stage` meets its contract.
use Rattle.thermosphere.proofs.Laws.{nodes_below, nodes_above}
use Rattle.thermosphere.proofs.nodes_stage.Goals as goal

pub returns-then-z : goal.returns-then-z
returns-then-z c = let A = c.args in
    nodes_below A.sw A.z A.l
    c.varied.result
    c.pow-k.result
    c.pma8-p8.result
    c.ptl3-p3.result
    c.ptl2-p2.result
    c.ptl1-p1.result
    c.ptl0-p0.result
    c.ptm-m.result
    c.varied.ensures
    c.pow-k.ensures
    c.pma8-p8.ensures
    c.ptl3-p3.ensures
    c.ptl2-p2.ensures
    c.ptl1-p1.ensures
    c.ptl0-p0.ensures
    c.ptm-m.ensures
    c.if-z.true

pub returns : goal.returns
returns c = let A = c.args in
    nodes_above A.sw A.z A.l
    c.mean.result
    c.pow-k.result
    c.pma8-p8.result
    c.ptl3-p3.result
    c.ptl2-p2.result
    c.ptl1-p1.result
    c.ptl0-p0.result
    c.ptm-m.result
    c.mean.ensures
    c.pow-k.ensures
    c.pma8-p8.ensures
    c.ptl3-p3.ensures
    c.ptl2-p2.ensures
    c.ptl1-p1.ensures
    c.ptl0-p0.ensures
    c.ptm-m.ensures
    c.if-z.false
