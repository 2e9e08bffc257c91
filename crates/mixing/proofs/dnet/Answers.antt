-- `dnet` meets its contract: each return is a case of the definition.
use Rattle.mixing.specs.Mixing.{dnet_of}
use Rattle.mixing.proofs.dnet.Goals as goal

pub blend-requires : goal.blend-requires
blend-requires c = tt

pub returns-then-dm-dd : goal.returns-then-dm-dd
unfolding dnet_of
returns-then-dm-dd c = simp (← c.blend.ensures) (simp c.if-dm-dd.true)

pub pick-dd1-requires : goal.pick-dd1-requires
pick-dd1-requires c = tt

pub returns-then-dm : goal.returns-then-dm
unfolding dnet_of
returns-then-dm c = simp (← c.pick-dd1.ensures) (simp (c.if-dm.true, c.if-dm-dd.false))

pub returns-then-dd1 : goal.returns-then-dd1
unfolding dnet_of
returns-then-dd1 c = simp (← c.pick-dd1.ensures) (simp (c.if-dd1.true, c.if-dm.false, c.if-dm-dd.false))

pub blend-requires-2 : goal.blend-requires-2
blend-requires-2 c = tt

pub returns : goal.returns
unfolding dnet_of
returns c = simp (← c.blend-2.ensures, ← c.pick-dd1.ensures) (simp (c.if-dd1.false, c.if-dm.false, c.if-dm-dd.false))
