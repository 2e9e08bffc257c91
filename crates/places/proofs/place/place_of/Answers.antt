-- `place_of` meets its contract.
use Rattle.places.proofs.Placed.{under_law, over_law, unset_law}
use Rattle.places.proofs.place.place_of.Goals as goal

pub returns-then-z-za : goal.returns-then-z-za
returns-then-z-za c = let A = c.args in
    under_law A.h A.s A.z A.zlb A.zn _ c.under.ensures c.requires c.if-z-za.true

pub returns-then-z-za-2 : goal.returns-then-z-za-2
returns-then-z-za-2 c = let A = c.args in
    over_law A.h A.s A.z A.zlb A.zn _ c.over.ensures c.requires c.if-z-za-2.true c.if-z-za.false

pub returns : goal.returns
returns c = let A = c.args in
    unset_law A.h A.s A.z A.zlb A.zn _ c.unset_place.ensures c.requires c.if-z-za-2.false c.if-z-za.false
