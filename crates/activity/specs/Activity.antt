-- Magnetic activity: g0, sumex, sg0 of the Rust, and what globe7 leaves in apdf and apt.
use Rattle.std.specs.Prelude.{cond, not, ◌&&◌, List, Float}
use Rattle.std.specs.Float.Ieee.{neg, lt, eq, ne}
use Rattle.numbers.specs.Arithmetic.{◌⊕◌, ◌⊖◌, ◌⊗◌, ◌⊘◌, ◌‼◌}
use Rattle.numbers.specs.Literals.{0·0, 0·5, 0·99999, 10800·0, 12·0, 19·0, 1·0, 1·0E-4, 1·0E-5, 3·0, 45·0, 4·0, 8·0}
use Rattle.elementary.specs.Exp.{exp_of}
use Rattle.elementary.specs.Root.{sqrt_of}
use Rattle.elementary.specs.Pow.{pow_of}

-- g0 of the Rust, with r the root of p[24] squared
unfoldable pub g0_of : Float → Float → Float → Float
g0_of r p25 a =
    let e = exp_of ((neg r) ⊗ (a ⊖ 4·0)) in
    a ⊖ 4·0 ⊕ (p25 ⊖ 1·0) ⊗ (a ⊖ 4·0 ⊕ (e ⊖ 1·0) ⊘ r)

-- sumex
unfoldable pub sumex_of : Float → Float
sumex_of ex =
    let a = pow_of ex 19·0 in
    let b = pow_of ex 0·5 in
    1·0 ⊕ (1·0 ⊖ a) ⊘ (1·0 ⊖ ex) ⊗ b

-- The mean of sg0 over the six values
unfoldable pub weighted_mean_of : Float → Float → Float → Float → Float → Float → Float → Float → Float → Float → Float → Float → Float
weighted_mean_of ex e3 e4 e12 e8 g1 g2 g3 g4 g5 g6 s =
    (g1 ⊕ (g2 ⊗ ex ⊕ g3 ⊗ ex ⊗ ex ⊕ g4 ⊗ e3 ⊕ (g5 ⊗ e4 ⊕ g6 ⊗ e12) ⊗ (1·0 ⊖ e8) ⊘ (1·0 ⊖ ex))) ⊘ s

-- sg0
unfoldable pub sg0_of : Float → Float → Float → List Float → Float
sg0_of ex p24 p25 ap =
    let r = sqrt_of (p24 ⊗ p24) in
    let g1 = g0_of r p25 (ap ‼ 1) in
    let g2 = g0_of r p25 (ap ‼ 2) in
    let g3 = g0_of r p25 (ap ‼ 3) in
    let g4 = g0_of r p25 (ap ‼ 4) in
    let g5 = g0_of r p25 (ap ‼ 5) in
    let g6 = g0_of r p25 (ap ‼ 6) in
    let e3 = pow_of ex 3·0 in
    let e4 = pow_of ex 4·0 in
    let e12 = pow_of ex 12·0 in
    let e8 = pow_of ex 8·0 in
    let s = sumex_of ex in
    weighted_mean_of ex e3 e4 e12 e8 g1 g2 g3 g4 g5 g6 s

-- exp1 of globe7, at most 0.99999
unfoldable pub exp1_of : Float → Float → Float → Float
exp1_of p51 p138 glat =
    let a = sqrt_of (p51 ⊗ p51) in
    let b = sqrt_of (glat ⊗ glat) in
    let e = exp_of ((neg 10800·0) ⊗ a ⊘ (1·0 ⊕ p138 ⊗ (45·0 ⊖ b))) in
    cond (lt 0·99999 e) 0·99999 e

-- apdf of globe7
unfoldable pub apdf_from_of : Float → Float → Float → Float
apdf_from_of p43 p44 ap =
    let apd = ap ⊖ 4·0 in
    let q = cond (lt p43 0·0) 1·0E-5 p43 in
    let e = exp_of ((neg q) ⊗ apd) in
    apd ⊕ (p44 ⊖ 1·0) ⊗ (apd ⊕ (e ⊖ 1·0) ⊘ q)

-- apdf after globe7: kept in history mode
unfoldable pub apdf_next_of : Float → Float → Float → Float → Float → Float
apdf_next_of sw9 p43 p44 ap old =
    cond (eq sw9 (neg 1·0)) (old) (
    apdf_from_of p43 p44 ap)

-- apt[0] after globe7: kept unless the history is asked for and p[51] is not zero
unfoldable pub apt_next_of : Float → Float → Float → Float → Float → Float → List Float → Float → Float
apt_next_of sw9 p51 p138 p24 p25 glat ap old =
    cond (not ((eq sw9 (neg 1·0)) && (ne p51 0·0))) (old) (
    let e = exp1_of p51 p138 glat in
    let q = cond (lt p24 1·0E-4) 1·0E-4 p24 in
    sg0_of e q p25 ap)
