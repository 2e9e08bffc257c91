-- `more` meets its contract: after i digits, 8 less i may still follow.
use mathlib.Core.Path.{◌≡◌}
use Prim.Native.Nat.{◌+◌, ◌-◌, ◌*◌, ◌^◌, ◌≤◌}
use lib.ListN.{length}
use Rattle.line_form.specs.Grammar.{more_of}
use Rattle.line_form.proofs.more.Given as goal

abbrev pub invariant-loop-i : goal.invariant-loop-i
invariant-loop-i l =
    ((l.v + 1) * 10 ^ (8 - l.i) ≤ 1000000000) × (l.at + l.i ≤ length l.s) × (more_of (8 - l.i) l.s (l.at + l.i) l.v ≡ more_of 8 l.s l.at l.first)
