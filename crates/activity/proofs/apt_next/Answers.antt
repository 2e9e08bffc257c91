-- `apt_next` meets its contract.
use mathlib.Core.Path.{◌∙◌}
use Rattle.activity.specs.Activity.{apt_next_of}
use Rattle.activity.specs.Responses.{apt_from, apt_from_lem}
use Rattle.activity.proofs.apt_next.Goals as goal

pub returns-then-not-sw9-p51 : goal.returns-then-not-sw9-p51
unfolding apt_next_of
returns-then-not-sw9-p51 c = simp c.if-not-sw9-p51.true-raw

pub returns : goal.returns
unfolding apt_from
returns c =
    let A = c.args in
    simp (← c.sg0.ensures, ← c.responses_to-g.ensures, ← c.exp1-e.ensures) (simp c.if-not-sw9-p51.false-raw)
    ∙ apt_from_lem A.sw9 A.p51 A.p138 A.p24 A.p25 A.glat A.ap A.old
