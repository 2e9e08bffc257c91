-- `ccor` meets its contract: each return is a case of the definition.
use Rattle.mixing.specs.Mixing.{ccor_of}
use Rattle.mixing.proofs.ccor.Goals as goal

pub exp-requires : goal.exp-requires
exp-requires c = tt

pub returns-then-e : goal.returns-then-e
unfolding ccor_of
returns-then-e c = simp (← c.exp.ensures) (simp c.if-e.true)

pub exp-requires-then-e-2 : goal.exp-requires-then-e-2
exp-requires-then-e-2 c = tt

pub returns-then-e-2 : goal.returns-then-e-2
unfolding ccor_of
returns-then-e-2 c = simp (← c.exp-then-e-2.ensures) (simp (c.if-e-2.true, c.if-e.false))

pub exp-ex-requires : goal.exp-ex-requires
exp-ex-requires c = tt

pub exp-requires-2 : goal.exp-requires-2
exp-requires-2 c = tt

pub returns : goal.returns
unfolding ccor_of
returns c = simp (← c.exp-2.ensures, ← c.exp-ex.ensures) (simp (c.if-e-2.false, c.if-e.false))
