-- `globe7_values` meets its contract: at each turn the rest of the filling gives the whole list.
use Prim.Native.Nat.{◌-◌}
use mathlib.Core.Path.{◌≡◌}
use lib.ListN.{length, replicate}
use Rattle.numbers.specs.Literals.{0·0}
use Rattle.setting.specs.Switches.{filled}
use Rattle.expansion_values.specs.Sets.{globe7_at_given}
use Rattle.expansion_values.proofs.globe7_values.Given as goal

abbrev pub invariant-loop-k : goal.invariant-loop-k
invariant-loop-k l =
    (length l.p ≡ 150) × (filled (11 - l.k) (globe7_at_given l.n l.v l.g l.c l.s) l.k l.x ≡ filled 11 (globe7_at_given l.n l.v l.g l.c l.s) 0 (replicate 11 0·0))
