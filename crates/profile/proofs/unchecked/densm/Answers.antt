-- `densm` meets its contract.
use Rattle.profile.specs.Profile.{densm_of}
use Rattle.profile.proofs.unchecked.densm.Goals as goal

pub returns-then-alt-zn2 : goal.returns-then-alt-zn2
unfolding densm_of
returns-then-alt-zn2 c = simp (← c.answer.ensures) (simp c.if-alt-zn2.true)

pub returns-then-alt-zn3 : goal.returns-then-alt-zn3
unfolding densm_of
returns-then-alt-zn3 c = simp (← c.answer-then-alt-zn3.ensures, ← c.lowered-d1.ensures, ← c.floored-l.ensures) (simp (c.if-alt-zn3.true, c.if-alt-zn2.false))

pub lowered-d2-requires : goal.lowered-d2-requires
lowered-d2-requires c =
    let p = c.requires.le_mn3 in
    (p.0, p.1)

pub returns : goal.returns
unfolding densm_of
returns c = simp (← c.answer-2.ensures, ← c.lowered-d2.ensures, ← c.layer-k.ensures, ← c.lowered-d1.ensures, ← c.floored-l.ensures) (simp (c.if-alt-zn3.false, c.if-alt-zn2.false))
