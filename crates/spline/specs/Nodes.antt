-- Cubic splines over n nodes: the integral and the interpolation.
use Rattle.std.specs.Prelude.{ℕ, zero, suc, ◌+◌, ◌-◌, ◌/◌, cond, ◌&&◌, not, List, ltb, Float}
use Rattle.std.specs.Float.Ieee.{lt, neg}
use Rattle.numbers.specs.Arithmetic.{◌⊕◌, ◌⊖◌, ◌⊗◌, ◌⊘◌, ◌‼◌}
use Rattle.numbers.specs.Literals.{0·0, 1·0, 2·0, 4·0, 6·0}

-- what splini adds to yi over the segment from node k to the next, up to xx
abbrev pub area_of : List Float → List Float → List Float → ℕ → Float → Float
area_of xa ya y2a k xx =
    let khi = k + 1 in
    let h = xa ‼ khi ⊖ xa ‼ k in
    let a = (xa ‼ khi ⊖ xx) ⊘ h in
    let b = (xx ⊖ xa ‼ k) ⊘ h in
    let a2 = a ⊗ a in
    let b2 = b ⊗ b in
    ((1·0 ⊖ a2) ⊗ ya ‼ k ⊘ 2·0
    ⊕ b2 ⊗ ya ‼ khi ⊘ 2·0
    ⊕ ((neg (1·0 ⊕ a2 ⊗ a2) ⊘ 4·0 ⊕ a2 ⊘ 2·0) ⊗ y2a ‼ k ⊕ (b2 ⊗ b2 ⊘ 4·0 ⊖ b2 ⊘ 2·0) ⊗ y2a ‼ khi) ⊗ h ⊗ h ⊘ 6·0)
    ⊗ h

-- the same with splini's own xx
unfoldable pub segment_of : List Float → List Float → List Float → ℕ → Float → ℕ → Float
segment_of xa ya y2a n x k =
    area_of xa ya y2a k (cond (ltb (k + 1) (n - 1) && not (lt x (xa ‼ (k + 1)))) (xa ‼ (k + 1)) x)

-- splini's loop with yi so far, at node k, with m segments to go
unfoldable pub integral : ℕ → List Float → List Float → List Float → ℕ → Float → ℕ → Float → Float
integral zero xa ya y2a n x k yi = yi
integral (suc m) xa ya y2a n x k yi =
    cond (lt (xa ‼ k) x) (integral m xa ya y2a n x (k + 1) (yi ⊕ segment_of xa ya y2a n x k)) yi

-- splini
unfoldable pub splini_of : List Float → List Float → List Float → ℕ → Float → Float
splini_of xa ya y2a n x = integral (n - 1) xa ya y2a n x 0 0·0

-- splint behind its loop
abbrev pub cubic_of : List Float → List Float → List Float → ℕ → ℕ → Float → Float
cubic_of xa ya y2a klo khi x =
    let h = xa ‼ khi ⊖ xa ‼ klo in
    let a = (xa ‼ khi ⊖ x) ⊘ h in
    let b = (x ⊖ xa ‼ klo) ⊘ h in
    a ⊗ ya ‼ klo
    ⊕ b ⊗ ya ‼ khi
    ⊕ ((a ⊗ a ⊗ a ⊖ a) ⊗ y2a ‼ klo ⊕ (b ⊗ b ⊗ b ⊖ b) ⊗ y2a ‼ khi) ⊗ h ⊗ h ⊘ 6·0

-- splint from a segment klo to khi on; m bounds the halvings
unfoldable pub searched : ℕ → List Float → List Float → List Float → Float → ℕ → ℕ → Float
searched zero xa ya y2a x klo khi = cubic_of xa ya y2a klo khi x
searched (suc m) xa ya y2a x klo khi =
    cond (ltb 1 (khi - klo))
    (let k = (khi + klo) / 2 in
    cond (lt x (xa ‼ k)) (searched m xa ya y2a x klo k) (searched m xa ya y2a x k khi))
    (cubic_of xa ya y2a klo khi x)

-- splint
unfoldable pub splint_of : List Float → List Float → List Float → ℕ → Float → Float
splint_of xa ya y2a n x = searched (n - 1) xa ya y2a x 0 (n - 1)
