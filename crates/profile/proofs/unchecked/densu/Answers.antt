-- `densu` meets its contract.
use Rattle.profile.specs.Profile.{densu_of, tn1_of, tgn1_of}
use Rattle.profile.proofs.unchecked.densu.Goals as goal

pub returns-then-alt-za : goal.returns-then-alt-za
unfolding densu_of tn1_of tgn1_of
returns-then-alt-za c =
    let t = c.if-alt-za.true in
    let p = c.pick-z.ensures in
    let z = c.zeta-zg2.ensures in
    let b = c.bates-tt.ensures in
    let g = c.gradient-dta.ensures in
    record { value = simp (← c.below.ensures, ← c.floored-l.ensures, ← g, ← b, ← z, ← p) (simp (t)); tn1_after = simp (← b, ← z, ← p) (simp (t)); tgn1_after = simp (← g, ← b, ← z, ← p) (simp (t)) }

pub returns-then-alt-za-2 : goal.returns-then-alt-za-2
unfolding densu_of tn1_of tgn1_of
returns-then-alt-za-2 c =
    let t = c.if-alt-za.false in
    record { value = simp (← c.above.ensures, ← c.bates-tt.ensures, ← c.zeta-zg2.ensures, ← c.pick-z.ensures) (simp (c.if-alt-za-2.true, t)); tn1_after = simp (t); tgn1_after = simp (t) }

pub returns : goal.returns
unfolding densu_of tn1_of tgn1_of
returns c =
    let t = c.if-alt-za.false in
    record { value = simp (← c.below-2.ensures, ← c.unset-l.ensures, ← c.bates-tt.ensures, ← c.zeta-zg2.ensures, ← c.pick-z.ensures) (simp (c.if-alt-za-2.false, t)); tn1_after = simp (t); tgn1_after = simp (t) }
