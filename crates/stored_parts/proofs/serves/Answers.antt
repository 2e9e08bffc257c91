-- `serves` meets its contract.
use Rattle.stored_parts.specs.Parts.{serves_of}
use Rattle.stored_parts.proofs.serves.Goals as goal

pub returns-then-from_summit : goal.returns-then-from_summit
unfolding serves_of
returns-then-from_summit c = simp (← c.from_summit.ensures, ← c.above_summit.ensures) (simp (c.if-from_summit.true, c.if-not-above_summit.true-raw))

pub returns-then-not-above_summit : goal.returns-then-not-above_summit
unfolding serves_of
returns-then-not-above_summit c =
    simp (← c.from_summit.ensures, ← c.above_summit.ensures) (simp (c.if-from_summit.false, c.if-not-above_summit.true-raw))

pub returns-then-not-above_za : goal.returns-then-not-above_za
unfolding serves_of
returns-then-not-above_za c = simp (← c.above_za.ensures, ← c.above_summit.ensures) (simp (c.if-not-above_za.true-raw, c.if-not-above_summit.false-raw))

pub returns-then-below_300 : goal.returns-then-below_300
unfolding serves_of
returns-then-below_300 c =
    simp (← c.below_300.ensures, ← c.above_za.ensures, ← c.above_summit.ensures)
    (simp (c.if-below_300.true, c.if-not-above_za.false-raw, c.if-not-above_summit.false-raw))

pub returns : goal.returns
unfolding serves_of
returns c =
    simp (← c.below_300.ensures, ← c.above_za.ensures, ← c.above_summit.ensures)
    (simp (c.if-below_300.false, c.if-not-above_za.false-raw, c.if-not-above_summit.false-raw))
