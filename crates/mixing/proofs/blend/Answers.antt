-- `blend` meets its contract: each return is a case of the definition.
use Rattle.mixing.specs.Mixing.{blend_of}
use Rattle.mixing.proofs.blend.Goals as goal

pub log-requires : goal.log-requires
log-requires c = tt

pub returns-then-ylog : goal.returns-then-ylog
unfolding blend_of
returns-then-ylog c = simp (← c.log.ensures) (simp c.if-ylog.true)

pub returns-then-ylog-2 : goal.returns-then-ylog-2
unfolding blend_of
returns-then-ylog-2 c = simp (← c.log.ensures) (simp (c.if-ylog-2.true, c.if-ylog.false))

pub exp-requires : goal.exp-requires
exp-requires c = tt

pub pow-requires : goal.pow-requires
pow-requires c = tt

pub returns : goal.returns
unfolding blend_of
returns c = simp (← c.pow.ensures, ← c.exp.ensures, ← c.log.ensures) (simp (c.if-ylog-2.false, c.if-ylog.false))
