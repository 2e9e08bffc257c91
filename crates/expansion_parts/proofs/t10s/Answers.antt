-- `t10s` meets its contract.
use Rattle.expansion_parts.specs.ExpansionParts.{t10s_given}
use Rattle.expansion_parts.proofs.Laws.{t10s_law}
use Rattle.expansion_parts.proofs.t10s.Goals as goal

pub returns-then-v : goal.returns-then-v
unfolding t10s_given
returns-then-v c = simp (c.if-v.true)

pub returns : goal.returns
returns c =
    let A = c.args in
    t10s_law A.v A.p.now A.g A.e
    c.long_sin_s-d.result
    c.long_cos_s-b.result
    c.season_s-a.result
    c.long_sin_s-d.ensures
    c.long_cos_s-b.ensures
    c.season_s-a.ensures
    c.if-v.false
