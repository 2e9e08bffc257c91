-- `meso_nodes` meets its contract.
use Rattle.lower_atmosphere.proofs.Laws.{meso_law}
use Rattle.lower_atmosphere.proofs.meso_nodes.Goals as goal

pub returns : goal.returns
returns c = let A = c.args in
    meso_law A.sw A.h A.l
    c.mesosphere.result
    c.pow-k.result
    c.pma9-p9.result
    c.pma2-p2.result
    c.pma1-p1.result
    c.pma0-p0.result
    c.pavgm-q.result
    c.mesosphere.ensures
    c.pow-k.ensures
    c.pma9-p9.ensures
    c.pma2-p2.ensures
    c.pma1-p1.ensures
    c.pma0-p0.ensures
    c.pavgm-q.ensures
