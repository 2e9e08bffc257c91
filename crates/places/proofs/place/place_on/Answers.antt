-- `place_on` meets its contract.
use Rattle.places.proofs.Placed.{on_law}
use Rattle.places.proofs.place.place_on.Goals as goal

pub returns : goal.returns
returns c =
    let A = c.args in
    on_law A.h A.zlb A.p _ _ _ _ _ c.pick-l1.ensures c.log-l.ensures c.pick-r1.ensures c.log-lt.ensures
    c.pow-q.ensures
