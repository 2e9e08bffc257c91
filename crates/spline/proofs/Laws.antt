-- The second derivatives put together from the sweeps.
use mathlib.Core.Path.{◌≡◌}
use mathlib.Core.List.{List}
use mathlib.Core.Bool.{cond}
use Prim.Native.Nat.{ℕ, ◌-◌}
use lib.ListN.{set, replicate}
use lib.Ieee.{Float, lt, neg}
use Rattle.numbers.specs.Arithmetic.{◌‼◌}
use Rattle.numbers.specs.Literals.{0·0, 0·5, 0·99E30}
use Rattle.spline.specs.Sweep.{forward_of, back, sweep_end, first_uof, last_uof, spline_of}
use Rattle.spline.specs.declared.sweep.Pair.{Pair}

pub second_law : (x y : List Float) (n : ℕ) (yp1 ypn : Float)
    (z : List Float) (e qn un : Float) (f : Pair) (b a : Float)
    → z ≡ back (n - 1) (set f.y2 (n - 1) e) f.u
    → e ≡ sweep_end un qn (f.u ‼ (n - 2)) (f.y2 ‼ (n - 2))
    → qn ≡ cond (lt 0·99E30 ypn) 0·0 0·5
    → un ≡ last_uof x y n ypn
    → (f.y2, f.u) ≡ forward_of x y n (set (replicate 10 0·0) 0 a) (set (replicate 10 0·0) 0 b)
    → b ≡ first_uof x y yp1
    → a ≡ cond (lt 0·99E30 yp1) 0·0 (neg 0·5)
    → z ≡ spline_of x y n yp1 ypn
unfolding spline_of
second_law x y n yp1 ypn z e qn un f b a e0 e1 e2 e3 e4 e5 e6 =
    let h : (f.y2, f.u) ≡ forward_of x y n (set (replicate 10 0·0) 0 (cond (lt 0·99E30 yp1) 0·0 (neg 0·5))) (set (replicate 10 0·0) 0 (first_uof x y yp1)) = rw (e5, e6) at e4 in
    simp (e0, e1, e2, e3, ← h)
