-- `row_below` meets its contract.
use Rattle.footing.proofs.Laws.{row_law}
use Rattle.footing.proofs.row_below.Goals as goal

pub returns : goal.returns
returns c = let A = c.args in
    row_law A.sw0 A.f A.alt
    c.kilograms-all.result c.mass-g.result c.full-ar.result c.full-o2.result c.full-he.result c.temperature_in-t1.result c.returned_number-n.result
    c.reached-a.result c.dmc-c.result c.pdm4-m4.result c.pdm3-m3.result c.pdm0-m0.result
    c.kilograms-all.ensures c.mass-g.ensures c.full-ar.ensures c.full-o2.ensures c.full-he.ensures c.temperature_in-t1.ensures c.returned_number-n.ensures
    c.reached-a.ensures c.dmc-c.ensures c.pdm4-m4.ensures c.pdm3-m3.ensures c.pdm0-m0.ensures
