-- `lower_stage` meets its contract.
use Rattle.lower_atmosphere.proofs.Laws.{lower_above, lower_below}
use Rattle.lower_atmosphere.proofs.lower_stage.Goals as goal

pub returns-then-not-alt : goal.returns-then-not-alt
returns-then-not-alt c = let A = c.args in
    lower_above A.sw A.alt A.m A.l
    c.unset.result
    c.unset.ensures
    c.if-not-alt.true-raw

pub returns : goal.returns
returns c = let A = c.args in
    lower_below A.sw A.alt A.m A.l
    c.troposphere.result
    c.pow-k.result
    c.pma7-p7.result
    c.pma6-p6.result
    c.pma5-p5.result
    c.pma4-p4.result
    c.pma3-p3.result
    c.pavgm-q.result
    c.troposphere.ensures
    c.pow-k.ensures
    c.pma7-p7.ensures
    c.pma6-p6.ensures
    c.pma5-p5.ensures
    c.pma4-p4.ensures
    c.pma3-p3.ensures
    c.pavgm-q.ensures
    c.if-not-alt.false-raw
