-- Theorems on the splines.
use mathlib.Core.Path.{◌≡◌, refl}
use mathlib.Core.Bool.{true, false}
use mathlib.Core.List.{List}
use Prim.Native.Nat.{ℕ, ◌*◌, ◌-◌}
use native.Mathlib.Nat.{le_refl}
use lib.Ieee.{Float, nan, inf, fin, lt, up, down}
use borrow.Author.Tests.{le-ltb}
use Rattle.numbers.specs.Arithmetic.{◌‼◌}
use Rattle.numbers.specs.Literals.{0·0}
use Rattle.spline.specs.Nodes.{splini_of}
use Rattle.spline.proofs.Walks.{segment_left}

-- no number lies below itself
lt_self : (x : Float) → lt x x ≡ false
unfolding lt
lt_self nan = refl
lt_self (inf true) = refl
lt_self (inf false) = refl
lt_self (fin true m e) = le-ltb (m * up e * down e) (m * up e * down e) (le_refl (m * up e * down e))
lt_self (fin false m e) = le-ltb (m * up e * down e) (m * up e * down e) (le_refl (m * up e * down e))

-- The integral to the first node is 0, over whatever nodes: they may be equal, fall, or be no numbers.
pub splini_first : (xa ya y2a : List Float) (n : ℕ) → splini_of xa ya y2a n (xa ‼ 0) ≡ 0·0
unfolding splini_of
splini_first xa ya y2a n = segment_left xa ya y2a n (xa ‼ 0) (n - 1) 0 0·0 (lt_self (xa ‼ 0))
