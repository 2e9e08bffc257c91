-- `densu_sets` meets its contract.
use Rattle.plan.specs.Fields.{set_tn1}
use Rattle.state_steps.proofs.Laws.{densu_above_lem, densu_below_lem}
use Rattle.state_steps.proofs.densu_sets.Goals as goal

pub returns-then-not-z-za : goal.returns-then-not-z-za
returns-then-not-z-za c =
    let A = c.args in
    densu_above_lem A.s A.h A.z c.pdl1-l.result c.if-not-z-za.true-raw c.pdl1-l.ensures

pub returns : goal.returns
unfolding set_tn1
returns c =
    let A = c.args in
    densu_below_lem A.s A.h A.z c.gradient-dta.result c.bates-ta.result c.zeta-zg2.result c.pick-y.result
    c.ptm-m.result c.pdl1-l.result
    c.gradient-dta.ensures c.bates-ta.ensures c.zeta-zg2.ensures c.pick-y.ensures
    c.if-not-z-za.false-raw c.ptm-m.ensures c.pdl1-l.ensures
