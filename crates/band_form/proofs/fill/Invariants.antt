-- `fill` meets its contract: n bands are put, and the lines from `at` on go from k on.
use mathlib.Core.Path.{◌≡◌}
use mathlib.Core.List.{map}
use Prim.Native.Nat.{◌≤◌, ◌+◌, ◌*◌, ◌-◌}
use lib.ListN.{length, drop}
use Rattle.line_cut.specs.Lines.{lines_of}
use Rattle.band_form.specs.Line.{band_of}
use Rattle.band_form.specs.Bands.{unfit_line_from, bands_of}
use Rattle.band_form.proofs.Laws.{filled_from}
use Rattle.band_form.proofs.fill.Given as goal

abbrev pub invariant-loop-at : goal.invariant-loop-at
invariant-loop-at l =
    (l.at ≤ length l.text) × (l.k ≡ 1 + 25 * l.n) × (unfit_line_from (l.n + 1) (lines_of (drop l.at l.text)) ≡ 0) × (length l.table ≡ 1601)
    × (l.n + length (lines_of (drop l.at l.text)) ≡ length (lines_of l.text))
    × (filled_from l.k (map band_of (lines_of (drop l.at l.text))) l.table ≡ filled_from 1 (bands_of l.text) l.initial.table) × (l.n ≤ 64)

abbrev pub decreases-loop-at : goal.decreases-loop-at
decreases-loop-at l = length l.text - l.at
