-- `glob7s_filled` meets its contract: at each turn the rest of the filling gives the list up to the last set that is needed.
use Prim.Native.Nat.{◌-◌, ◌≤◌}
use mathlib.Core.Path.{◌≡◌}
use lib.ListN.{replicate}
use Rattle.numbers.specs.Literals.{0·0}
use Rattle.setting.specs.Switches.{filled}
use Rattle.expansion_values.specs.Sets.{glob7s_at_given}
use Rattle.expansion_values.proofs.glob7s_filled.Given as goal

abbrev pub invariant-loop-k : goal.invariant-loop-k
invariant-loop-k l =
    (l.end ≤ 14) × (filled (l.end - l.k) (glob7s_at_given l.n l.v l.g l.c3 l.c8 l.s) l.k l.x ≡ filled l.end (glob7s_at_given l.n l.v l.g l.c3 l.c8 l.s) 0 (replicate 14 0·0))
