-- One step of the recursive definitions that the loops over nodes follow.
use mathlib.Core.Path.{◌≡◌, refl}
use mathlib.Core.Bool.{true, false}
use mathlib.Core.List.{List}
use Prim.Native.Nat.{ℕ, zero, suc, ◌+◌, ◌-◌, ◌/◌, ◌≤◌, ◌<◌}
use native.Mathlib.Omega.{arith}
use borrow.Author.Tests.{lt-ltb, le-ltb}
use lib.Ieee.{Float, lt}
use Rattle.numbers.specs.Arithmetic.{◌⊕◌, ◌‼◌}
use Rattle.spline.specs.Nodes.{integral, segment_of, searched, cubic_of}

module _ (xa ya y2a : List Float) (n : ℕ) (x : Float) where
  -- the walk over segments goes on
  pub segment_more : (k : ℕ) (yi : Float) → k < n - 1 → lt (xa ‼ k) x ≡ true
      → integral (n - 1 - k) xa ya y2a n x k yi ≡ integral (n - 1 - (k + 1)) xa ya y2a n x (k + 1) (yi ⊕ segment_of xa ya y2a n x k)
  unfolding integral
  segment_more k yi h t = let e : n - 1 - k ≡ suc (n - 1 - (k + 1)) = omega arith in rw (e, t)

  -- it leaves at a node that is not below x
  pub segment_left : (m k : ℕ) (yi : Float) → lt (xa ‼ k) x ≡ false → integral m xa ya y2a n x k yi ≡ yi
  unfolding integral
  segment_left zero k yi t = refl
  segment_left (suc m) k yi t = rw (t)

  -- or after the last segment
  pub segment_last : (k : ℕ) (yi : Float) → n - 1 ≤ k → integral (n - 1 - k) xa ya y2a n x k yi ≡ yi
  unfolding integral
  segment_last k yi h = let e : n - 1 - k ≡ 0 = omega arith in rw (e)

module _ (xa ya y2a : List Float) (x : Float) where
  -- one halving, with m halvings to go
  pub search_lower : (m lo hi : ℕ) → 1 < hi - lo → hi - lo ≤ m → lt x (xa ‼ ((hi + lo) / 2)) ≡ true
      → searched m xa ya y2a x lo hi ≡ searched (m - 1) xa ya y2a x lo ((hi + lo) / 2)
  unfolding searched
  search_lower zero lo hi h l t = absurd (omega arith)
  search_lower (suc m) lo hi h l t = let e : suc m - 1 ≡ m = omega arith in rw (e, lt-ltb 1 (hi - lo) h, t)

  pub search_upper : (m lo hi : ℕ) → 1 < hi - lo → hi - lo ≤ m → lt x (xa ‼ ((hi + lo) / 2)) ≡ false
      → searched m xa ya y2a x lo hi ≡ searched (m - 1) xa ya y2a x ((hi + lo) / 2) hi
  unfolding searched
  search_upper zero lo hi h l t = absurd (omega arith)
  search_upper (suc m) lo hi h l t = let e : suc m - 1 ≡ m = omega arith in rw (e, lt-ltb 1 (hi - lo) h, t)

  pub search_done : (m lo hi : ℕ) → hi - lo ≤ 1 → searched m xa ya y2a x lo hi ≡ cubic_of xa ya y2a lo hi x
  unfolding searched
  search_done zero lo hi h = refl
  search_done (suc m) lo hi h = rw (le-ltb 1 (hi - lo) h)
