-- `station_row_on` meets its contract.
use Rattle.stored.proofs.Laws.{summit_way, ground_way, under_way, za_way, mid_way, top_way}
use Rattle.stored.proofs.station_row_on.Goals as goal

pub returns-then-from_summit : goal.returns-then-from_summit
returns-then-from_summit c =
    let A = c.args in
    summit_way A.sw0 A.sw15 A.s.now A.alt _ c.above_summit.result c.above_summit.ensures
    c.from_summit.result c.from_summit.ensures c.if-not-above_summit.true-raw c.if-from_summit.true c.put.ensures

pub returns-then-not-above_summit : goal.returns-then-not-above_summit
returns-then-not-above_summit c =
    let A = c.args in
    ground_way A.sw0 A.sw15 A.s.now A.alt _ c.above_summit.result c.above_summit.ensures
    c.from_summit.result c.from_summit.ensures c.if-not-above_summit.true-raw c.if-from_summit.false c.ground_on.ensures

pub returns-then-below_za : goal.returns-then-below_za
returns-then-below_za c =
    let A = c.args in
    under_way A.sw0 A.sw15 A.s.now A.alt _ c.above_summit.result c.above_summit.ensures
    c.above_za.result c.above_za.ensures c.if-not-above_summit.false-raw
    c.below_za.result c.below_za.ensures c.if-not-above_za.true-raw c.if-below_za.true c.under_on.ensures

pub returns-then-not-above_za : goal.returns-then-not-above_za
returns-then-not-above_za c =
    let A = c.args in
    za_way A.sw0 A.sw15 A.s.now A.alt _ c.above_summit.result c.above_summit.ensures
    c.above_za.result c.above_za.ensures c.if-not-above_summit.false-raw
    c.below_za.result c.below_za.ensures c.requires.0 c.if-not-above_za.true-raw c.if-below_za.false c.over_on.ensures

pub returns-then-below_300 : goal.returns-then-below_300
returns-then-below_300 c =
    let A = c.args in
    mid_way A.sw0 A.sw15 A.s.now A.alt _ c.above_summit.result c.above_summit.ensures
    c.above_za.result c.above_za.ensures c.if-not-above_summit.false-raw
    c.below_300.result c.below_300.ensures c.if-not-above_za.false-raw c.if-below_300.true c.over_on-then-below_300.ensures

pub returns : goal.returns
returns c =
    let A = c.args in
    top_way A.sw0 A.sw15 A.s.now A.alt _ c.above_summit.result c.above_summit.ensures
    c.above_za.result c.above_za.ensures c.if-not-above_summit.false-raw
    c.below_300.result c.below_300.ensures c.if-not-above_za.false-raw c.if-below_300.false c.over_on-2.ensures
