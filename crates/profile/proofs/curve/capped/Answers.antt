-- `capped` meets its contract.
use Rattle.profile.specs.Curve.{capped_of}
use Rattle.profile.proofs.curve.capped.Goals as goal

pub returns-then-expl : goal.returns-then-expl
unfolding capped_of
returns-then-expl c = simp c.if-expl.true

pub returns : goal.returns
unfolding capped_of
returns c = simp c.if-expl.false
