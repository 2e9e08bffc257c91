-- `ccor2` meets its contract: each return is a case of the definition.
use Rattle.mixing.specs.Mixing.{ccor2_of}
use Rattle.mixing.proofs.ccor2.Goals as goal

pub exp-requires : goal.exp-requires
exp-requires c = tt

pub returns-then-e1-e2 : goal.returns-then-e1-e2
unfolding ccor2_of
returns-then-e1-e2 c = simp (← c.exp.ensures) (simp c.if-e1-e2.true)

pub exp-requires-then-e1-e2-2 : goal.exp-requires-then-e1-e2-2
exp-requires-then-e1-e2-2 c = tt

pub returns-then-e1-e2-2 : goal.returns-then-e1-e2-2
unfolding ccor2_of
returns-then-e1-e2-2 c = simp (← c.exp-then-e1-e2-2.ensures) (simp (c.if-e1-e2-2.true, c.if-e1-e2.false))

pub exp-ex1-requires : goal.exp-ex1-requires
exp-ex1-requires c = tt

pub exp-ex2-requires : goal.exp-ex2-requires
exp-ex2-requires c = tt

pub exp-requires-2 : goal.exp-requires-2
exp-requires-2 c = tt

pub returns : goal.returns
unfolding ccor2_of
returns c = simp (← c.exp-2.ensures, ← c.exp-ex2.ensures, ← c.exp-ex1.ensures) (simp (c.if-e1-e2-2.false, c.if-e1-e2.false))
