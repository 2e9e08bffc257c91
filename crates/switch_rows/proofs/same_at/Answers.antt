-- `same_at` meets its contract.
use borrow.Author.Tests.{eq-eqb, ne_eqb}
use Rattle.switch_rows.specs.Rows.{same_at}
use Rattle.switch_rows.proofs.same_at.Goals as goal

pub returns-then-i-eq9 : goal.returns-then-i-eq9
unfolding same_at
returns-then-i-eq9 c = simp (eq-eqb _ _ c.if-i-eq9.true) c.same_number.ensures

pub returns : goal.returns
unfolding same_at
returns c =
    simp (ne_eqb _ _ c.if-i-eq9.false)
    (simp (c.both_or_neither-cross.ensures, c.both_or_neither-main.ensures, c.above_zero-s.ensures, c.above_zero-r.ensures, c.is_one-q.ensures, c.is_one-p.ensures))
