-- `same_expansions` meets its contract: what is left of the row, from entry i, decides.
use mathlib.Core.Path.{◌≡◌}
use Prim.Native.Nat.{◌≤◌, ◌-◌}
use Rattle.switch_rows.specs.Rows.{same_from, same_expansions}
use Rattle.switch_rows.proofs.same_expansions.Given as goal

abbrev pub invariant-loop-i : goal.invariant-loop-i
invariant-loop-i l = same_from (15 - l.i) l.a l.b l.i ≡ same_expansions l.a l.b
