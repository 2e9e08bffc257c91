-- `rows_at` meets its contract: the rows of the altitudes below i are written.
use mathlib.Core.Path.{◌≡◌}
use mathlib.Core.List.{◌++◌}
use Prim.Native.Nat.{◌≤◌, ◌-◌, ◌*◌}
use lib.ListN.{length, take, drop}
use Rattle.column.specs.Parts.{rows_stored}
use Rattle.column.proofs.rows_at.Given as goal

abbrev pub invariant-loop-i : goal.invariant-loop-i
invariant-loop-i l =
    (l.i ≤ length l.alts) × (length l.out ≡ length l.initial.out) × (length (rows_stored l.sw0 l.sw15 l.numbers (take l.i l.alts)) ≡ 11 * l.i)
    × (l.out ≡ rows_stored l.sw0 l.sw15 l.numbers (take l.i l.alts) ++ drop (11 * l.i) l.initial.out)

abbrev pub decreases-loop-i : goal.decreases-loop-i
decreases-loop-i l = length l.alts - l.i
