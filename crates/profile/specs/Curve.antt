-- The inverse temperature over a set of nodes as a cubic spline: what densu and densm share.
use Rattle.std.specs.Prelude.{ℕ, zero, suc, ◌+◌, ◌-◌, cond, List, set, replicate, Float}
use Rattle.std.specs.Float.Ieee.{neg, lt}
use Rattle.numbers.specs.Arithmetic.{◌⊕◌, ◌⊗◌, ◌⊘◌, ◌‼◌}
use Rattle.numbers.specs.Literals.{0·0, 1·0, 2·0, 50·0}
use Rattle.elementary.specs.Pow.{pow_of}
use Rattle.spline.specs.Nodes.{splint_of, splini_of}
use Rattle.spline.specs.Sweep.{spline_of}
use Rattle.profile.specs.Gravity.{zeta_of}
use Rattle.profile.specs.declared.curve.Curve.{Curve}

-- m turns of `xs[k] = zeta(zn[k], z1) / zgdif` from k on
unfoldable pub nodes_from : ℕ → Float → List Float → Float → Float → ℕ → List Float → List Float
nodes_from zero re zn z1 zgdif k xs = xs
nodes_from (suc m) re zn z1 zgdif k xs = nodes_from m re zn z1 zgdif (k + 1) (set xs k (zeta_of re (zn ‼ k) z1 ⊘ zgdif))

unfoldable pub node_xs_of : Float → List Float → ℕ → Float → Float → List Float
node_xs_of re zn n z1 zgdif = nodes_from n re zn z1 zgdif 0 (replicate 10 0·0)

-- m turns of `ys[k] = 1.0 / tn[k]` from k on
unfoldable pub inverses_from : ℕ → List Float → ℕ → List Float → List Float
inverses_from zero tn k ys = ys
inverses_from (suc m) tn k ys = inverses_from m tn (k + 1) (set ys k (1·0 ⊘ tn ‼ k))

unfoldable pub node_ys_of : List Float → ℕ → List Float
node_ys_of tn n = inverses_from n tn 0 (replicate 10 0·0)

-- yd1, and yd2 before its last factor
unfoldable pub slope_of : Float → Float → Float → Float
slope_of tg t zgdif = neg tg ⊘ (t ⊗ t) ⊗ zgdif

-- from `let z1` to `*tz = 1.0 / y`, which densm has twice and densu once
unfoldable pub layer_of : Float → List Float → List Float → ℕ → List Float → Float → Curve
layer_of re zn tn n tgn z =
    let z1 = zn ‼ 0 in
    let z2 = zn ‼ (n - 1) in
    let t1 = tn ‼ 0 in
    let t2 = tn ‼ (n - 1) in
    let zg = zeta_of re z z1 in
    let zgdif = zeta_of re z2 z1 in
    let xs = node_xs_of re zn n z1 zgdif in
    let ys = node_ys_of tn n in
    let yd1 = slope_of (tgn ‼ 0) t1 zgdif in
    let yd2 = slope_of (tgn ‼ 1) t2 zgdif ⊗ pow_of ((re ⊕ z2) ⊘ (re ⊕ z1)) 2·0 in
    let y2 = spline_of xs ys n yd1 yd2 in
    let x = zg ⊘ zgdif in
    let y = splint_of xs ys y2 n x in
    record { z1 = z1; t1 = t1; zgdif = zgdif; x = x; tz = 1·0 ⊘ y; xs = xs; ys = ys; y2 = y2 }

-- the same at alt, or at the last node where alt is not above it
unfoldable pub floored_of : Float → List Float → List Float → ℕ → List Float → Float → Curve
floored_of re zn tn n tgn alt =
    let z = cond (lt (zn ‼ (n - 1)) alt) alt (zn ‼ (n - 1)) in
    layer_of re zn tn n tgn z

-- densu's variables where `alt < za` does not hold: z1, t1, zgdif, x and the three arrays are 0
unfoldable pub unset_curve : Float → Curve
unset_curve tz =
    record {
      z1 = 0·0;
      t1 = 0·0;
      zgdif = 0·0;
      x = 0·0;
      tz = tz;
      xs = replicate 10 0·0;
      ys = replicate 10 0·0;
      y2 = replicate 10 0·0;
    }

-- gamm * yi; rgas is the gas constant
unfoldable pub exponent_of : Float → Float → Float → Float → Curve → ℕ → Float
exponent_of rgas gsurf re xm l n =
    let glb = gsurf ⊘ pow_of (1·0 ⊕ l.z1 ⊘ re) 2·0 in
    let gamm = xm ⊗ glb ⊗ l.zgdif ⊘ rgas in
    let yi = splini_of l.xs l.ys l.y2 n l.x in
    gamm ⊗ yi

-- `if expl > 50.0 { expl = 50.0; }`
unfoldable pub capped_of : Float → Float
capped_of expl = cond (lt 50·0 expl) 50·0 expl
