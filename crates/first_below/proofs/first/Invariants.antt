-- `first` meets its contract: no altitude before the one with the index k is thin enough, the row is as it was, and what is there of the numbers serves.
use mathlib.Core.Path.{◌≡◌}
use Prim.Native.Nat.{◌≤◌, ◌-◌}
use lib.ListN.{length}
use Rattle.numbers.specs.Arithmetic.{◌‼◌}
use Rattle.views.specs.View.{view_of}
use Rattle.column.specs.Column.{column_rows}
use Rattle.first_below_list.specs.FirstBelowList.{first_from, first_below}
use Rattle.first_below.proofs.Laws.{Served, thin}
use Rattle.first_below.proofs.first.Given as goal

abbrev pub invariant-loop-k : goal.invariant-loop-k
invariant-loop-k l =
    (length l.one ≡ 11) × (length l.row ≡ 11) × (l.row ≡ l.initial.row) × (length l.numbers ≡ 234)
    × (l.sw0 ≡ (view_of l.w l.n).sw ‼ 0) × (l.sw15 ≡ (view_of l.w l.n).sw ‼ 15)
    × Served l.w l.n l.there l.numbers
    × (first_from l.level (column_rows l.w l.n l.alts) (length l.alts - l.k) l.k ≡ first_below l.level (column_rows l.w l.n l.alts) (length l.alts))
