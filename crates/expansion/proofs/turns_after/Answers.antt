-- `turns_after` meets its contract.
use Rattle.expansion.proofs.Laws.{turns_after_law}
use Rattle.expansion.proofs.turns_after.Goals as goal

pub returns : goal.returns
returns c =
    let A = c.args in
    turns_after_law A.v A.s
    c.pick-c3t.result
    c.pick-s3t.result
    c.pick-c2t.result
    c.pick-s2t.result
    c.pick-ct.result
    c.pick-st.result
    c.pick-c3t.ensures
    c.pick-s3t.ensures
    c.pick-c2t.ensures
    c.pick-s2t.ensures
    c.pick-ct.ensures
    c.pick-st.ensures
