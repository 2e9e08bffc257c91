-- `array_of` meets its contract.
use Rattle.line_form.specs.Grammar.{array_of}
use Rattle.line_form.proofs.array_of.Goals as goal

pub returns : goal.returns
unfolding array_of
returns c = simp (← c.thousandths_at.ensures, ← c.thousandths_at-2.ensures, ← c.thousandths_at-3.ensures, ← c.thousandths_at-4.ensures, ← c.thousandths_at-5.ensures, ← c.thousandths_at-6.ensures, ← c.thousandths_at-7.ensures)
