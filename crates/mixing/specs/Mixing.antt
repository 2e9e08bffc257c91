-- Chemistry and dissociation corrections, the blend of two densities at the turbopause, and the transition to full mixing.
use Rattle.std.specs.Prelude.{cond, ◌&&◌, ◌||◌, Float}
use Rattle.std.specs.Float.Ieee.{lt, eq, neg}
use Rattle.numbers.specs.Arithmetic.{◌⊕◌, ◌⊖◌, ◌⊗◌, ◌⊘◌}
use Rattle.numbers.specs.Literals.{0·0, 0·5, 1·0, 10·0, 62·5, 70·0, 72·5}
use Rattle.elementary.specs.Exp.{exp_of}
use Rattle.elementary.specs.Log.{log_of}
use Rattle.elementary.specs.Pow.{pow_of}

-- ccor
unfoldable pub ccor_of : Float → Float → Float → Float → Float
ccor_of alt r h1 zh =
    let e = (alt ⊖ zh) ⊘ h1 in
    cond (lt 70·0 e) (exp_of 0·0)
    (cond (lt e (neg 70·0)) (exp_of r)
    (exp_of (r ⊘ (1·0 ⊕ exp_of e))))

-- ccor2
unfoldable pub ccor2_of : Float → Float → Float → Float → Float → Float
ccor2_of alt r h1 zh h2 =
    let e1 = (alt ⊖ zh) ⊘ h1 in
    let e2 = (alt ⊖ zh) ⊘ h2 in
    cond (lt 70·0 e1 || lt 70·0 e2) (exp_of 0·0)
    (cond (lt e1 (neg 70·0) && lt e2 (neg 70·0)) (exp_of r)
    (exp_of (r ⊘ (1·0 ⊕ 0·5 ⊗ (exp_of e1 ⊕ exp_of e2)))))

-- dnet from `let ylog` on
unfoldable pub blend_of : Float → Float → Float → Float
blend_of dd dm a =
    let ylog = a ⊗ log_of (dm ⊘ dd) in
    cond (lt ylog (neg 10·0)) dd
    (cond (lt 10·0 ylog) dm
    (dd ⊗ pow_of (1·0 ⊕ exp_of ylog) (1·0 ⊘ a)))

-- dnet
unfoldable pub dnet_of : Float → Float → Float → Float → Float → Float
dnet_of dd dm zhm xmm xm =
    let a = zhm ⊘ (xmm ⊖ xm) in
    cond (lt 0·0 dm && lt 0·0 dd) (blend_of dd dm a)
    (let dd1 = cond (eq dd 0·0 && eq dm 0·0) 1·0 dd in
    cond (eq dm 0·0) dd1
    (cond (eq dd1 0·0) dm
    (blend_of dd1 dm a)))

-- dmc of gtd7: the linear transition to full mixing, from 62.5 to 72.5 km
unfoldable pub dmc_of : Float → Float
dmc_of alt = cond (lt 62·5 alt) (1·0 ⊖ (72·5 ⊖ alt) ⊘ (72·5 ⊖ 62·5)) 0·0
