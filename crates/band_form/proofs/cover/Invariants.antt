-- `cover` meets its contract: from `at` on the lines are those from n on, after bands that reach up to `last`.
use mathlib.Core.Path.{◌≡◌}
use mathlib.Core.List.{map}
use Prim.Native.Nat.{◌≤◌, ◌<◌, ◌-◌}
use lib.IntN.{pos}
use lib.ListN.{length, drop}
use Rattle.line_cut.specs.Lines.{lines_of}
use Rattle.band_form.specs.Line.{band_of}
use Rattle.band_form.specs.Bands.{unfit_line_from, cover_from, bands_of}
use Rattle.band_form.proofs.cover.Given as goal

abbrev pub invariant-loop-at : goal.invariant-loop-at
invariant-loop-at l =
    (l.at ≤ length l.text) × (0 < l.n) × (unfit_line_from l.n (lines_of (drop l.at l.text)) ≡ 0)
    × (cover_from l.n l.last (map band_of (lines_of (drop l.at l.text))) ≡ cover_from 1 (pos 0) (bands_of l.text))

abbrev pub decreases-loop-at : goal.decreases-loop-at
decreases-loop-at l = length l.text - l.at
