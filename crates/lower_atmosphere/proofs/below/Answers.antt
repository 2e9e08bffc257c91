-- `below` meets its contract.
use Rattle.lower_atmosphere.proofs.Laws.{below_law}
use Rattle.lower_atmosphere.proofs.below.Goals as goal

pub returns : goal.returns
returns c =
    let A = c.args in
    below_law A.sw0 A.x A.alt A.u A.w
    c.temperature_in-t1.result
    c.returned_number-dd.result
    c.lower_temperature-b.result
    c.temperature_in-tz.result
    c.kilograms-all.result
    c.mass-g.result
    c.full-ar.result
    c.full-o2.result
    c.full-he.result
    c.returned_number-n.result
    c.n2-a.result
    c.dm28m-d.result
    c.dmc-c.result
    c.pdm4-m4.result
    c.pdm3-m3.result
    c.pdm0-m0.result
    c.temperature_in-t1.ensures
    c.returned_number-dd.ensures
    c.lower_temperature-b.ensures
    c.temperature_in-tz.ensures
    c.kilograms-all.ensures
    c.mass-g.ensures
    c.full-ar.ensures
    c.full-o2.ensures
    c.full-he.ensures
    c.returned_number-n.ensures
    c.n2-a.ensures
    c.dm28m-d.ensures
    c.dmc-c.ensures
    c.pdm4-m4.ensures
    c.pdm3-m3.ensures
    c.pdm0-m0.ensures
