-- `apt_from` meets its contract.
use Rattle.activity.specs.Responses.{apt_from}
use Rattle.activity.proofs.apt_from.Goals as goal

pub returns-then-not-sw9-p51 : goal.returns-then-not-sw9-p51
unfolding apt_from
returns-then-not-sw9-p51 c = simp c.if-not-sw9-p51.true-raw

pub returns : goal.returns
unfolding apt_from
returns c = simp (← c.sg0.ensures, ← c.exp1-e.ensures) (simp c.if-not-sw9-p51.false-raw)
