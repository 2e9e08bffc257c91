-- The cosines with a phase that the expansions read.
use Rattle.std.specs.Prelude.{Float}
use Rattle.numbers.specs.Arithmetic.{◌⊕◌, ◌⊖◌, ◌⊗◌}
use Rattle.numbers.specs.Literals.{2·0}
use Rattle.numbers.specs.Constants.{dgtr, dr, hr, sr}
use Rattle.elementary.specs.Trig.{cos_of}

-- cd32 and cd14: the cosine over the year with phase x
unfoldable pub annual_cos_of : Float → Float → Float
annual_cos_of doy x =
    cos_of (dr ⊗ (doy ⊖ x))

-- cd18 and cd39: the cosine over half the year with phase x
unfoldable pub semiannual_cos_of : Float → Float → Float
semiannual_cos_of doy x =
    cos_of (2·0 ⊗ dr ⊗ (doy ⊖ x))

-- The cosine of local time with phase x
unfoldable pub local_cos_of : Float → Float → Float
local_cos_of lst x =
    cos_of (hr ⊗ (lst ⊖ x))

-- The cosine of UT with phase x
unfoldable pub ut_cos_of : Float → Float → Float
ut_cos_of sec x =
    cos_of (sr ⊗ (sec ⊖ x))

-- The cosine of UT with phase x and twice the longitude
unfoldable pub ut_long_cos_of : Float → Float → Float → Float
ut_long_cos_of sec x glong =
    cos_of (sr ⊗ (sec ⊖ x) ⊕ 2·0 ⊗ dgtr ⊗ glong)

-- The cosine of longitude with phase x
unfoldable pub long_phase_cos_of : Float → Float → Float
long_phase_cos_of glong x =
    cos_of (dgtr ⊗ (glong ⊖ x))
