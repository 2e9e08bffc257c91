-- `units` meets its contract.
use Rattle.gts7_arithmetic.specs.Gts7Arithmetic.{units_of}
use Rattle.gts7_arithmetic.proofs.units.Goals as goal

pub returns-then-not-sw0 : goal.returns-then-not-sw0
unfolding units_of
returns-then-not-sw0 c = simp c.if-not-sw0.true-raw

pub returns : goal.returns
unfolding units_of
returns c = simp c.if-not-sw0.false-raw
