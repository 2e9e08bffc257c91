-- `temperature_of` meets its contract.
use Rattle.places.proofs.Placed.{temperature_of_law}
use Rattle.places.proofs.place.temperature_of.Goals as goal

pub returns-then-z-za : goal.returns-then-z-za
returns-then-z-za c = let A = c.args in
    temperature_of_law A.h A.s A.z A.zlb A.zn _ c.temperature_under.ensures c.requires c.if-z-za.true

pub temperature_over-requires : goal.temperature_over-requires
temperature_over-requires c = c.if-z-za.false

pub returns : goal.returns
returns c = c.temperature_over.ensures
