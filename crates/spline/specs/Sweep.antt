-- Second derivatives of a cubic spline: the ends, a sweep forward, a sweep back.
use Rattle.std.specs.Prelude.{ℕ, zero, suc, ◌+◌, ◌-◌, List, set, replicate, cond, Float}
use Rattle.std.specs.Float.Ieee.{lt, neg}
use Rattle.numbers.specs.Arithmetic.{◌⊕◌, ◌⊖◌, ◌⊗◌, ◌⊘◌, ◌‼◌}
use Rattle.numbers.specs.Literals.{0·0, 0·5, 1·0, 2·0, 3·0, 6·0, 0·99E30}

-- spline's sig at node i
abbrev pub sig_of : List Float → ℕ → Float
sig_of x i = (x ‼ i ⊖ x ‼ (i - 1)) ⊘ (x ‼ (i + 1) ⊖ x ‼ (i - 1))

-- spline's new y2[i], from the y2 of the node before
abbrev pub step_y : List Float → ℕ → Float → Float
step_y x i yp =
    let sig = sig_of x i in
    let p = sig ⊗ yp ⊕ 2·0 in
    (sig ⊖ 1·0) ⊘ p

-- spline's new u[i], from the y2 and u of the node before
abbrev pub step_u : List Float → List Float → ℕ → Float → Float → Float
step_u x y i yp up =
    let sig = sig_of x i in
    let p = sig ⊗ yp ⊕ 2·0 in
    (6·0
    ⊗ ((y ‼ (i + 1) ⊖ y ‼ i) ⊘ (x ‼ (i + 1) ⊖ x ‼ i) ⊖ (y ‼ i ⊖ y ‼ (i - 1)) ⊘ (x ‼ i ⊖ x ‼ (i - 1)))
    ⊘ (x ‼ (i + 1) ⊖ x ‼ (i - 1))
    ⊖ sig ⊗ up)
    ⊘ p

-- m turns of the loop `for i in 1..(n - 1)` from i on: y2 and u
unfoldable pub sweep : ℕ → List Float → List Float → ℕ → List Float → List Float → List Float × List Float
sweep zero x y i y2 u = (y2, u)
sweep (suc m) x y i y2 u =
    sweep m x y (i + 1) (set y2 i (step_y x i (y2 ‼ (i - 1)))) (set u i (step_u x y i (y2 ‼ (i - 1)) (u ‼ (i - 1))))

-- that loop
unfoldable pub forward_of : List Float → List Float → ℕ → List Float → List Float → List Float × List Float
forward_of x y n y2 u = sweep (n - 1 - 1) x y 1 y2 u

-- the loop `for k in (0..=(n - 2)).rev()`, with the first argument's number of nodes to go
unfoldable pub back : ℕ → List Float → List Float → List Float
back zero y2 u = y2
back (suc m) y2 u = back m (set y2 m (y2 ‼ m ⊗ y2 ‼ (suc m) ⊕ u ‼ m)) u

-- spline's first u[0]
unfoldable pub first_uof : List Float → List Float → Float → Float
first_uof x y yp1 =
    cond (lt 0·99E30 yp1) 0·0
    (3·0 ⊘ (x ‼ 1 ⊖ x ‼ 0) ⊗ ((y ‼ 1 ⊖ y ‼ 0) ⊘ (x ‼ 1 ⊖ x ‼ 0) ⊖ yp1))

-- spline's un
unfoldable pub last_uof : List Float → List Float → ℕ → Float → Float
last_uof x y n ypn =
    cond (lt 0·99E30 ypn) 0·0
    (3·0 ⊘ (x ‼ (n - 1) ⊖ x ‼ (n - 2)) ⊗ (ypn ⊖ (y ‼ (n - 1) ⊖ y ‼ (n - 2)) ⊘ (x ‼ (n - 1) ⊖ x ‼ (n - 2))))

-- spline's y2[n - 1]
unfoldable pub sweep_end : Float → Float → Float → Float → Float
sweep_end un qn u y = (un ⊖ qn ⊗ u) ⊘ (qn ⊗ y ⊕ 1·0)

-- spline: the first n numbers are what it writes
unfoldable pub spline_of : List Float → List Float → ℕ → Float → Float → List Float
spline_of x y n yp1 ypn =
    let y2 = set (replicate 10 0·0) 0 (cond (lt 0·99E30 yp1) 0·0 (neg 0·5)) in
    let u = set (replicate 10 0·0) 0 (first_uof x y yp1) in
    let f = forward_of x y n y2 u in
    let un = last_uof x y n ypn in
    let qn = cond (lt 0·99E30 ypn) 0·0 0·5 in
    let last = sweep_end un qn (f.1 ‼ (n - 2)) (f.0 ‼ (n - 2)) in
    back (n - 1) (set f.0 (n - 1) last) f.1
