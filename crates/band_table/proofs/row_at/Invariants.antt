-- `row_at` meets its contract: the bands from the i-th on give what all give.
use mathlib.Core.Path.{◌≡◌}
use Prim.Native.Nat.{◌+◌, ◌*◌, ◌-◌}
use lib.IntN.{pos}
use lib.ListN.{get_or}
use Rattle.band_table.specs.Table.{row_from, band_count}
use Rattle.band_table.proofs.row_at.Given as goal

abbrev pub invariant-loop-i : goal.invariant-loop-i
invariant-loop-i l = row_from (l.bands - l.i) l.table (1 + 25 * l.i) l.metre ≡ row_from (band_count (get_or l.table 0 (pos 0))) l.table 1 l.metre
