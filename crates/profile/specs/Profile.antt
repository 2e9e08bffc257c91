-- The profiles of temperature and density: densu and densm.
use Rattle.std.specs.Prelude.{ℕ, cond, List, set, Float}
use Rattle.std.specs.Float.Ieee.{neg, lt, le, eq}
use Rattle.numbers.specs.Arithmetic.{◌⊕◌, ◌⊖◌, ◌⊗◌, ◌⊘◌, ◌‼◌}
use Rattle.numbers.specs.Literals.{0·0, 1·0, 2·0, 50·0}
use Rattle.elementary.specs.Exp.{exp_of}
use Rattle.elementary.specs.Pow.{pow_of}
use Rattle.profile.specs.Gravity.{zeta_of}
use Rattle.profile.specs.Curve.{layer_of, floored_of, unset_curve, exponent_of, capped_of}
use Rattle.profile.specs.declared.curve.Curve.{Curve}
use Rattle.profile.specs.declared.unchecked.Shape.{Shape}
use Rattle.profile.specs.declared.unchecked.Profile.{Profile}
use Rattle.profile.specs.declared.unchecked.Profile.TheVariants.{Temperature, Density}

-- densu's tt
unfoldable pub bates_of : Float → Float → Float → Float → Float
bates_of tinf tlb s2 zg2 = tinf ⊖ (tinf ⊖ tlb) ⊗ exp_of (neg s2 ⊗ zg2)

-- densu's dta
unfoldable pub gradient_of : Float → Float → Float → Float → Float → Float → Float
gradient_of re tinf ta zlb s2 za = (tinf ⊖ ta) ⊗ s2 ⊗ pow_of ((re ⊕ zlb) ⊘ (re ⊕ za)) 2·0

-- densu's densa
unfoldable pub densa_of : Float → Float → Float → Float → Float → Float → Float → Float → Float → Float → Float → Float → Float
densa_of rgas gsurf re dlb tinf tlb xm alpha zlb s2 zg2 tt =
    let glb = gsurf ⊘ pow_of (1·0 ⊕ zlb ⊘ re) 2·0 in
    let gamma = xm ⊗ glb ⊘ (s2 ⊗ rgas ⊗ tinf) in
    let expl = cond (le tt 0·0) 50·0 (capped_of (exp_of (neg s2 ⊗ gamma ⊗ zg2))) in
    dlb ⊗ pow_of (tlb ⊘ tt) (1·0 ⊕ alpha ⊕ gamma) ⊗ expl

-- densu from `if xm == 0.0` on, where alt is at or above za
unfoldable pub densu_above : Float → Float → Float → Float → Float → Float → Float → Float → Float → Float → Float → Float → Profile
densu_above rgas gsurf re dlb tinf tlb xm alpha zlb s2 zg2 tt =
    cond (eq xm 0·0) (Temperature tt)
    (Density (densa_of rgas gsurf re dlb tinf tlb xm alpha zlb s2 zg2 tt) tt)

-- densu from `if xm == 0.0` on, where alt is not at or above za
unfoldable pub densu_below : Float → Float → Float → Float → Float → Float → Float → Float → Float → Float → Float → Float → Curve → ℕ → Profile
densu_below rgas gsurf re dlb tinf tlb xm alpha zlb s2 zg2 tt l n =
    cond (eq xm 0·0) (Temperature l.tz)
    (let densa = densa_of rgas gsurf re dlb tinf tlb xm alpha zlb s2 zg2 tt in
    let expl = cond (le l.tz 0·0) 50·0 (capped_of (exponent_of rgas gsurf re xm l n)) in
    Density (densa ⊗ pow_of (l.t1 ⊘ l.tz) (1·0 ⊕ alpha) ⊗ exp_of (neg expl)) l.tz)

-- densu's zg2 and tt
abbrev pub zg2_of : Float → Float → Float → Float → Float
zg2_of re alt zlb za = zeta_of re (cond (lt za alt) alt za) zlb

abbrev pub tt_of : Float → Float → Float → Float → Float → Float → Float → Float
tt_of re alt tinf tlb zlb s2 za = bates_of tinf tlb s2 (zg2_of re alt zlb za)

-- densu: alt below za, at or above it, or neither (a NaN)
unfoldable pub densu_of : Float → Float → Float → Float → Float → Float → Float → Float → Float → Float → Float → ℕ → List Float → List Float → List Float → Profile
densu_of rgas gsurf re alt dlb tinf tlb xm alpha zlb s2 mn1 zn1 tn1 tgn1 =
    let za = zn1 ‼ 0 in
    let zg2 = zg2_of re alt zlb za in
    let tt = tt_of re alt tinf tlb zlb s2 za in
    cond (lt alt za)
    (let dta = gradient_of re tinf tt zlb s2 za in
    densu_below rgas gsurf re dlb tinf tlb xm alpha zlb s2 zg2 tt (floored_of re zn1 (set tn1 0 tt) mn1 (set tgn1 0 dta) alt) mn1)
    (cond (le za alt)
    (densu_above rgas gsurf re dlb tinf tlb xm alpha zlb s2 zg2 tt)
    (densu_below rgas gsurf re dlb tinf tlb xm alpha zlb s2 zg2 tt (unset_curve tt) mn1))

-- what densu leaves in tn1 and tgn1: element 0 changes, and only where alt is below za
unfoldable pub tn1_of : Float → Float → Float → Float → Float → Float → List Float → List Float → List Float
tn1_of re alt tinf tlb zlb s2 zn1 tn1 =
    let za = zn1 ‼ 0 in
    cond (lt alt za) (set tn1 0 (tt_of re alt tinf tlb zlb s2 za)) tn1

unfoldable pub tgn1_of : Float → Float → Float → Float → Float → Float → List Float → List Float → List Float
tgn1_of re alt tinf tlb zlb s2 zn1 tgn1 =
    let za = zn1 ‼ 0 in
    let ta = tt_of re alt tinf tlb zlb s2 za in
    cond (lt alt za) (set tgn1 0 (gradient_of re tinf ta zlb s2 za)) tgn1

-- densu over gts7's five nodes
unfoldable pub densu5_of : Shape → Float → Float → Float → Float → Float → List Float → Profile
densu5_of h alt dlb xm alpha zlb zn =
    densu_of h.rgas h.gsurf h.re alt dlb h.tinf h.tlb xm alpha zlb h.s 5 zn h.tn h.tgn

-- densm's `if xm != 0.0`, which it has twice
unfoldable pub lowered_of : Float → Float → Float → Float → Float → Curve → ℕ → Float
lowered_of rgas gsurf re xm d l n =
    cond (eq xm 0·0) d
    (let expl = capped_of (exponent_of rgas gsurf re xm l n) in
    d ⊗ (l.t1 ⊘ l.tz) ⊗ exp_of (neg expl))

-- densm's `if xm == 0.0`, which it has three times
unfoldable pub profile_answer : Float → Float → Float → Profile
profile_answer xm d tz = cond (eq xm 0·0) (Temperature tz) (Density d tz)

-- densm
unfoldable pub densm_of : Float → Float → Float → Float → Float → Float → Float → ℕ → List Float → List Float → List Float → ℕ → List Float → List Float → List Float → Profile
densm_of rgas gsurf re alt d0 xm tz mn3 zn3 tn3 tgn3 mn2 zn2 tn2 tgn2 =
    cond (lt (zn2 ‼ 0) alt) (profile_answer xm d0 tz)
    (let l = floored_of re zn2 tn2 mn2 tgn2 alt in
    let d1 = lowered_of rgas gsurf re xm d0 l mn2 in
    cond (lt (zn3 ‼ 0) alt) (profile_answer xm d1 l.tz)
    (let k = layer_of re zn3 tn3 mn3 tgn3 alt in
    profile_answer xm (lowered_of rgas gsurf re xm d1 k mn3) k.tz))

-- the number that the Rust returns, and the temperature that it writes
abbrev pub returned_number : Profile → Float
returned_number (Temperature t) = t
returned_number (Density d t) = d

abbrev pub temperature_in : Profile → Float
temperature_in (Temperature t) = t
temperature_in (Density d t) = t
