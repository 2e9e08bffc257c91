-- `abs` meets its contract: each return is a case of the definition.
use Rattle.numbers.specs.Tests.{abs_of}
use Rattle.numbers.proofs.abs.Goals as goal

pub returns-then-x : goal.returns-then-x
unfolding abs_of
returns-then-x c = simp c.if-x.true

pub returns-then-x-2 : goal.returns-then-x-2
unfolding abs_of
returns-then-x-2 c = simp (c.if-x.false, c.if-x-2.true)

pub returns : goal.returns
unfolding abs_of
returns c = simp (c.if-x.false, c.if-x-2.false)
