-- `unmixed_row` meets its contract.
use mathlib.Core.Path.{◌∙◌}
use Rattle.species.proofs.Laws.{place_has}
use Rattle.unmixed.proofs.Laws.{row_law}
use Rattle.unmixed.proofs.unmixed_row.Goals as goal

pub six_alone-y-requires : goal.six_alone-y-requires
six_alone-y-requires c = (c.place_alone_at-p.ensures, c.requires.1)

pub temperature_alone-t1-requires : goal.temperature_alone-t1-requires
temperature_alone-t1-requires c = c.place_alone_at-p.ensures

pub returns : goal.returns
returns c =
    let A = c.args in
    row_law A.sw A.x A.z A.l
    c.row_from.result c.temperature_alone-t1.result c.sqrt-r.result c.anomalous_stage-oh.result c.anomalous-k.result c.six_alone-y.result c.n2_alone-n2.result c.shape_stage-h.result A.m
    c.row_from.ensures (c.temperature_alone-t1.ensures ∙ place_has _ _) c.sqrt-r.ensures c.anomalous_stage-oh.ensures c.anomalous-k.ensures c.six_alone-y.ensures c.n2_alone-n2.ensures c.shape_stage-h.ensures
    c.requires
