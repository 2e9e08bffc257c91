-- `footing_of` meets its contract.
use Rattle.footing.proofs.Laws.{summit_there, footing_law}
use Rattle.footing.proofs.footing_of.Goals as goal

pub summit_at-u-requires : goal.summit_at-u-requires
summit_at-u-requires c =
    let A = c.args in
    λ e. summit_there A.sw A.x c.shape_stage-h.result A.l A.q c.shape_stage-h.ensures (c.requires e)

pub returns : goal.returns
returns c =
    let A = c.args in
    footing_law A.sw A.x A.l A.tropo c.curves_of-k.result c.dm28m-d.result c.meso_nodes-e.result c.summit_at-u.result c.shape_stage-h.result
    c.curves_of-k.ensures c.dm28m-d.ensures c.meso_nodes-e.ensures c.summit_at-u.ensures c.shape_stage-h.ensures
