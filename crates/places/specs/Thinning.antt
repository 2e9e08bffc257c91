-- By what a gas is thinned out from the lower boundary to a place, whatever its density there: densu without its dlb.
use Rattle.std.specs.Prelude.{◌≡◌, refl, Bool, true, false, cond, not, List, Float}
use Rattle.std.proofs.Common.{sym, ap, subst, ◌∙◌}
use Rattle.std.specs.Float.Ieee.{neg, lt, le, eq, of_bits}
use Rattle.numbers.specs.Arithmetic.{◌⊕◌, ◌⊗◌, ◌⊘◌, ◌‼◌}
use Rattle.numbers.specs.Literals.{0·0, 1·0, 50·0}
use Rattle.elementary.specs.Exp.{exp_of}
use Rattle.elementary.specs.Log.{log_of}
use Rattle.elementary.specs.Pow.{pow_of}
use Rattle.profile.specs.Curve.{capped_of}
use Rattle.profile.specs.Profile.{densa_of, densu_above, densu5_of, returned_number, temperature_in}
use Rattle.profile.specs.Point.{on_curve, off_curve, point_of, densu_at, densu_at_lem}
use Rattle.places.specs.Place.{place_on, place_of}
use Rattle.profile.specs.declared.curve.Curve.{Curve}
use Rattle.places.specs.declared.place.Place.{Place}
use Rattle.places.specs.declared.thinning.Thinning.{Thinning}
use Rattle.profile.specs.declared.point.Point.{Point}
use Rattle.profile.specs.declared.unchecked.Shape.{Shape}
use Rattle.profile.specs.declared.unchecked.Profile.TheVariants.{Temperature, Density}

-- lt and l1 are logarithms
abbrev pub Logged : Place → Type 0
Logged w = (w.lt ≡ log_of w.rt) × (w.l1 ≡ cond w.under (log_of w.r1) 0·0)

-- densu_at's factors
unfoldable pub thinning_of : Place → Float → Float → Thinning
thinning_of w xm alpha =
    let gamma = xm ⊗ w.base ⊘ w.k in
    let e = cond (le w.tt 0·0) 50·0 (capped_of (exp_of (neg w.s ⊗ gamma ⊗ w.zg2))) in
    let p = pow_of w.rt (1·0 ⊕ alpha ⊕ gamma) in
    cond (not w.under) (record { none = eq xm 0·0; under = false; tz = w.tz; p = p; e = e; q = 1·0; k = 1·0 }) (
    let expl = cond (le w.tz 0·0) 50·0 (capped_of (xm ⊗ w.glb ⊗ w.zgdif ⊘ w.rgas ⊗ w.yi)) in
    record { none = eq xm 0·0; under = true; tz = w.tz; p = p; e = e; q = pow_of w.r1 (1·0 ⊕ alpha); k = exp_of (neg expl) })

-- their product with dlb, in densu's order
unfoldable pub thinned_of : Thinning → Float → Float
thinned_of t dlb =
    cond t.none t.tz
    (cond (not t.under) (dlb ⊗ t.p ⊗ t.e)
    (dlb ⊗ t.p ⊗ t.e ⊗ t.q ⊗ t.k))

-- the logarithms of a place that was worked out
pub logged : (h : Shape) (z zlb : Float) (zn : List Float) (w : Place) → w ≡ place_of h z zlb zn → Logged w
unfolding place_of place_on
logged h z zlb zn w e = subst Logged (sym e) (refl, refl)

returned_either : (b : Bool) (d t : Float) → returned_number (cond b (Temperature t) (Density d t)) ≡ cond b t d
returned_either true d t = refl
returned_either false d t = refl

three : (P : Point → Type 0) (b c : Bool) (x y w : Point) → P x → P y → P w → P (cond b x (cond c y w))
three P true c x y w e f g = e
three P false true x y w e f g = f
three P false false x y w e f g = g

-- what holds on every curve and off it holds of every altitude
at_point : (h : Shape) (z zlb : Float) (zn : List Float) (P : Point → Type 0)
    → ((zg2 tt : Float) (l : Curve) → P (on_curve h z zg2 tt l))
    → ((zg2 tt : Float) → P (off_curve z zg2 tt))
    → P (point_of h z zlb zn)
unfolding point_of
at_point h z zlb zn P on off = three P (lt z (zn ‼ 0)) (le (zn ‼ 0) z) _ _ _ (on _ _ _) (off _ _) (on _ _ _)

on_curve_lem : (h : Shape) (z zlb zg2 tt : Float) (l : Curve) (dlb xm alpha : Float)
    → thinned_of (thinning_of (place_on h zlb (on_curve h z zg2 tt l)) xm alpha) dlb ≡ returned_number (densu_at h (on_curve h z zg2 tt l) dlb xm alpha zlb)
unfolding thinned_of thinning_of place_on on_curve densu_at densa_of
on_curve_lem h z zlb zg2 tt l dlb xm alpha = sym (returned_either (eq xm 0·0) _ _)

off_curve_lem : (h : Shape) (z zlb zg2 tt : Float) (dlb xm alpha : Float)
    → thinned_of (thinning_of (place_on h zlb (off_curve z zg2 tt)) xm alpha) dlb ≡ returned_number (densu_at h (off_curve z zg2 tt) dlb xm alpha zlb)
unfolding thinned_of thinning_of place_on off_curve densu_at densu_above densa_of
off_curve_lem h z zlb zg2 tt dlb xm alpha = sym (returned_either (eq xm 0·0) _ _)

-- A density thinned out to a place is densu's
pub thinned_densu : (h : Shape) (z dlb xm alpha zlb : Float) (zn : List Float)
    → thinned_of (thinning_of (place_of h z zlb zn) xm alpha) dlb ≡ returned_number (densu5_of h z dlb xm alpha zlb zn)
unfolding place_of
thinned_densu h z dlb xm alpha zlb zn =
    at_point h z zlb zn
    (λ (p : Point). thinned_of (thinning_of (place_on h zlb p) xm alpha) dlb ≡ returned_number (densu_at h p dlb xm alpha zlb))
    (λ zg2 tt l. on_curve_lem h z zlb zg2 tt l dlb xm alpha)
    (λ zg2 tt. off_curve_lem h z zlb zg2 tt dlb xm alpha)
    ∙ ap returned_number (densu_at_lem h z dlb xm alpha zlb zn)

warm_on : (h : Shape) (z zlb zg2 tt : Float) (l : Curve) → (place_on h zlb (on_curve h z zg2 tt l)).tz ≡ temperature_in (densu_at h (on_curve h z zg2 tt l) 1·0 0·0 0·0 zlb)
unfolding place_on on_curve densu_at eq of_bits
warm_on h z zlb zg2 tt l = refl

warm_off : (h : Shape) (z zlb zg2 tt : Float) → (place_on h zlb (off_curve z zg2 tt)).tz ≡ temperature_in (densu_at h (off_curve z zg2 tt) 1·0 0·0 0·0 zlb)
unfolding place_on off_curve densu_at densu_above eq of_bits
warm_off h z zlb zg2 tt = refl

-- The temperature at a place is densu's
pub place_temperature : (h : Shape) (z zlb : Float) (zn : List Float)
    → (place_of h z zlb zn).tz ≡ temperature_in (densu5_of h z 1·0 0·0 0·0 zlb zn)
unfolding place_of
place_temperature h z zlb zn =
    at_point h z zlb zn
    (λ (p : Point). (place_on h zlb p).tz ≡ temperature_in (densu_at h p 1·0 0·0 0·0 zlb))
    (λ zg2 tt l. warm_on h z zlb zg2 tt l)
    (λ zg2 tt. warm_off h z zlb zg2 tt)
    ∙ ap temperature_in (densu_at_lem h z 1·0 0·0 0·0 zlb zn)
