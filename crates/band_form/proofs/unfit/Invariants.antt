-- `unfit` meets its contract: the lines from `at` on have the numbers from n on.
use mathlib.Core.Path.{◌≡◌}
use Prim.Native.Nat.{◌≤◌, ◌-◌}
use lib.ListN.{length, drop}
use Rattle.line_cut.specs.Lines.{lines_of}
use Rattle.band_form.specs.Bands.{unfit_line_from}
use Rattle.band_form.proofs.unfit.Given as goal

abbrev pub invariant-loop-at : goal.invariant-loop-at
invariant-loop-at l = (l.at ≤ length l.text) × (unfit_line_from l.n (lines_of (drop l.at l.text)) ≡ unfit_line_from 1 (lines_of l.text))

abbrev pub decreases-loop-at : goal.decreases-loop-at
decreases-loop-at l = length l.text - l.at
