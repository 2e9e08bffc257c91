-- One step of the sweep.
use mathlib.Core.Path.{◌≡◌, refl}
use mathlib.Core.List.{List}
use Prim.Native.Nat.{ℕ, zero, suc, ◌+◌, ◌-◌, ◌≤◌, ◌<◌}
use native.Mathlib.Omega.{arith}
use lib.ListN.{set}
use lib.Ieee.{Float}
use Rattle.numbers.specs.Arithmetic.{◌‼◌, ◌⊗◌, ◌⊕◌}
use Rattle.spline.specs.Sweep.{sweep, step_y, step_u, back}

module _ (x y : List Float) (n : ℕ) where
  pub sweep_more : (i : ℕ) (y2 u : List Float) → i < n - 1
      → sweep (n - 1 - i) x y i y2 u ≡ sweep (n - 1 - (i + 1)) x y (i + 1) (set y2 i (step_y x i (y2 ‼ (i - 1)))) (set u i (step_u x y i (y2 ‼ (i - 1)) (u ‼ (i - 1))))
  unfolding sweep
  sweep_more i y2 u h = let e : n - 1 - i ≡ suc (n - 1 - (i + 1)) = omega arith in rw (e)

  pub sweep_done : (i : ℕ) (y2 u : List Float) → n - 1 ≤ i → sweep (n - 1 - i) x y i y2 u ≡ (y2, u)
  unfolding sweep
  sweep_done i y2 u h = let e : n - 1 - i ≡ 0 = omega arith in rw (e)

-- one node more, going down
pub back_more : (k : ℕ) (y2 u : List Float) → 0 < k → back k y2 u ≡ back (k - 1) (set y2 (k - 1) (y2 ‼ (k - 1) ⊗ y2 ‼ k ⊕ u ‼ (k - 1))) u
unfolding back
back_more zero y2 u h = absurd (omega arith)
back_more (suc m) y2 u h = let e : suc m - 1 ≡ m = omega arith in rw (e)

pub back_done : (k : ℕ) (y2 u : List Float) → k ≤ 0 → back k y2 u ≡ y2
unfolding back
back_done zero y2 u h = refl
back_done (suc m) y2 u h = absurd (omega arith)
