-- Gravity by latitude, geopotential heights, scale height.
use Rattle.std.specs.Prelude.{Float}
use Rattle.numbers.specs.Arithmetic.{◌⊕◌, ◌⊖◌, ◌⊗◌, ◌⊘◌}
use Rattle.numbers.specs.Literals.{1·0, 2·0, 980·616, 0·0026373, 3·085462E-6, 2·27E-9, 1·0E-5}
use Rattle.numbers.specs.Constants.{dgtr}
use Rattle.elementary.specs.Pow.{pow_of}
use Rattle.elementary.specs.Trig.{cos_of}
use Rattle.profile.specs.declared.gravity.Gravity.{Gravity}

-- glatf
unfoldable pub glatf_of : Float → Gravity
glatf_of lat =
    let c2 = cos_of (2·0 ⊗ dgtr ⊗ lat) in
    let gsurf = 980·616 ⊗ (1·0 ⊖ 0·0026373 ⊗ c2) in
    record { gsurf = gsurf; re = 2·0 ⊗ gsurf ⊘ (3·085462E-6 ⊕ 2·27E-9 ⊗ c2) ⊗ 1·0E-5 }

-- zeta
unfoldable pub zeta_of : Float → Float → Float → Float
zeta_of re zz zl = (zz ⊖ zl) ⊗ (re ⊕ zl) ⊘ (re ⊕ zz)

-- scalh; rgas is the gas constant
unfoldable pub scalh_of : Float → Float → Float → Float → Float → Float → Float
scalh_of rgas gsurf re alt xm temp =
    let g = gsurf ⊘ pow_of (1·0 ⊕ alt ⊘ re) 2·0 in
    rgas ⊗ temp ⊘ (g ⊗ xm)
