-- What spline leaves in the lent slice, whatever the call is handed.
use mathlib.Core.Path.{◌≡◌, refl, ◌∙◌}
use mathlib.Core.Bool.{cond, ◌||◌}
use mathlib.Core.List.{List, [], ◌∷◌, ◌++◌}
use Prim.Native.Nat.{ℕ, zero, suc, ◌+◌, ◌-◌, ◌≤◌}
use native.Mathlib.Omega.{arith}
use lib.Dec.{ltb}
use lib.ListN.{length, set, replicate, take, drop, length-set}
use lib.Ieee.{Float, neg, lt}
use Rattle.numbers.specs.Arithmetic.{◌‼◌}
use Rattle.numbers.specs.Literals.{0·0, 0·5, 0·99E30}
use Rattle.spline.specs.Sweep.{sweep, forward_of, back, first_uof, last_uof, sweep_end, spline_of}
use Rattle.spline_calls.specs.Outcome.{counted, after}
use Rattle.spline_calls.specs.Calls.{spline_call, three_long}
use Rattle.spline_calls.proofs.Accept.{counted_in, long_enough, past}

-- the sweeps keep the length of what they write
length_sweep : (m : ℕ) (x y : List Float) (i : ℕ) (y2 u : List Float) → length (sweep m x y i y2 u).0 ≡ length y2
unfolding sweep
length_sweep zero x y i y2 u = refl
length_sweep (suc m) x y i y2 u = length_sweep m x y (i + 1) _ _ ∙ length-set y2 i _

length_back : (m : ℕ) (y2 u : List Float) → length (back m y2 u) ≡ length y2
unfolding back
length_back zero y2 u = refl
length_back (suc m) y2 u = length_back m _ u ∙ length-set y2 m _

length_forward : (x y : List Float) (n : ℕ) (y2 u : List Float) → length (forward_of x y n y2 u).0 ≡ length y2
unfolding forward_of
length_forward x y n y2 u = length_sweep (n - 1 - 1) x y 1 y2 u

length_end : (m k : ℕ) (y2 u : List Float) (v : Float) → length y2 ≡ 10 → length (back m (set y2 k v) u) ≡ 10
length_end m k y2 u v e = length_back m (set y2 k v) u ∙ length-set y2 k v ∙ e

length_spline : (x y : List Float) (n : ℕ) (yp1 ypn : Float) → length (spline_of x y n yp1 ypn) ≡ 10
unfolding spline_of
length_spline x y n yp1 ypn =
    let y2 = set (replicate 10 0·0) 0 (cond (lt 0·99E30 yp1) 0·0 (neg 0·5)) in
    let u = set (replicate 10 0·0) 0 (first_uof x y yp1) in
    let f = forward_of x y n y2 u in
    let v = sweep_end (last_uof x y n ypn) (cond (lt 0·99E30 ypn) 0·0 0·5) (f.1 ‼ (n - 2)) (f.0 ‼ (n - 2)) in
    length_end (n - 1) (n - 1) f.0 f.1 v (length_forward x y n y2 u)

-- from n on a list with its first n numbers overwritten is as it was
kept : (n : ℕ) (v o : List Float) → n ≤ length v → n ≤ length o → drop n (take n v ++ drop n o) ≡ drop n o
kept zero v o h k = refl
kept (suc n) [] o h k = absurd (omega arith)
kept (suc n) (a ∷ v) [] h k = absurd (omega arith)
kept (suc n) (a ∷ v) (b ∷ o) h k = kept n v o (omega arith) (omega arith)

-- spline writes nothing of the lent slice behind the first n numbers, whatever it is handed.
pub spline_rest : (x y : List Float) (n : ℕ) (yp1 ypn : Float) (y2 : List Float)
    → drop n (after (spline_call x y n yp1 ypn y2) y2) ≡ drop n y2
unfolding spline_call three_long counted after
spline_rest x y n yp1 ypn y2 =
    past (ltb n 2 || ltb 10 n) 5 10 _ y2 (λ (ys : List Float). drop n ys ≡ drop n y2) refl
    (λ e. past (ltb (length x) n || ltb (length y) n || ltb (length y2) n) 4 n _ y2 (λ (ys : List Float). drop n ys ≡ drop n y2) refl
    (λ f.
    let l = length_spline x y n yp1 ypn in
    let h = counted_in n 10 e in
    let k = long_enough n (length x) (length y) (length y2) f in
    kept n (spline_of x y n yp1 ypn) y2 (omega (arith, l, h.1)) k.2))
