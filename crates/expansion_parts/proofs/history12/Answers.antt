-- `history12` meets its contract.
use Rattle.expansion_parts.specs.ExpansionParts.{history12_of}
use Rattle.expansion_parts.proofs.history12.Goals as goal

pub returns-then-not-p : goal.returns-then-not-p
unfolding history12_of
returns-then-not-p c = simp (c.if-not-p.true-raw)

pub returns : goal.returns
unfolding history12_of
returns c = simp (← c.activity_ut-d.ensures, ← c.activity_annual-b.ensures, ← c.activity_long-a.ensures, ← c.ut-y2.ensures, ← c.long_phase-y1.ensures, ← c.long_phase-y0.ensures) (simp (c.if-not-p.false-raw))
