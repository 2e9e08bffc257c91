-- `numbers` meets its contract: from the j-th on the others may still follow.
use mathlib.Core.Path.{◌≡◌}
use Prim.Native.Nat.{◌≤◌, ◌+◌, ◌-◌}
use lib.ListN.{length}
use Rattle.line_form.specs.Grammar.{read_numbers}
use Rattle.line_form.proofs.numbers.Given as goal

abbrev pub invariant-loop-j : goal.invariant-loop-j
invariant-loop-j l = (l.q.next ≤ length l.s) × (read_numbers (l.i + l.m - l.j) l.s l.j l.q ≡ read_numbers l.m l.s l.i l.initial.q)
