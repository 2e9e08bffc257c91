-- `spaced` meets its contract: the numbers before the current one are written.
use mathlib.Core.Path.{◌≡◌}
use Prim.Native.Nat.{◌+◌, ◌*◌}
use lib.ListN.{take}
use Rattle.line_text.specs.Text.{Writes, spaced_text}
use Rattle.line_text.proofs.spaced.Given as goal

abbrev pub invariant-loop-x : goal.invariant-loop-x
invariant-loop-x l =
    (l.to ≡ l.at + 17 * l.x-index) × Writes l.initial.out l.at (spaced_text (take l.x-index l.x-items)) l.out l.to
