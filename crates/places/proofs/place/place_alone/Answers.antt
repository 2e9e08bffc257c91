-- `place_alone` meets its contract.
use Rattle.places.specs.Place.{place_of}
use Rattle.places.proofs.Placed.{alone_law}
use Rattle.places.proofs.place.place_alone.Goals as goal

pub returns-then-z-za : goal.returns-then-z-za
returns-then-z-za c =
    let A = c.args in
    alone_law A.h A.z A.zlb A.zn _ _ c.over.ensures c.pow-q.ensures c.if-z-za.true

pub returns : goal.returns
unfolding place_of
returns c = simp (← c.place_on.ensures, ← c.point_of-p.ensures)
