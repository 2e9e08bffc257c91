-- densu's altitudes over one Shape: what the shape fixes for all of them, and what an altitude adds. A Place is a Point (Point.antt) with more beside it.
use Rattle.std.specs.Prelude.{◌≡◌, refl, Bool, true, false, cond, set, Float}
use Rattle.std.proofs.Common.{sym}
use mathlib.Core.List.{List, replicate}
use Rattle.std.specs.Float.Ieee.{lt, le, of_bits}
use Rattle.numbers.specs.Arithmetic.{◌⊕◌, ◌⊗◌, ◌⊘◌, ◌‼◌}
use Rattle.numbers.specs.Literals.{0·0, 1·0, 2·0}
use Rattle.elementary.specs.Log.{log_of}
use Rattle.elementary.specs.Pow.{pow_of}
use Rattle.spline.specs.Nodes.{splini_of, integral}
use Rattle.layers.specs.Layers.{first_five, layer_read, splint_five, splini_five}
use Rattle.profile.specs.Gravity.{zeta_of}
use Rattle.profile.specs.Curve.{layer_of, floored_of, unset_curve}
use Rattle.profile.specs.Profile.{bates_of, gradient_of, tt_of}
use Rattle.profile.specs.Point.{on_curve, off_curve, point_of}
use Rattle.places.specs.declared.place.Spine.{Spine}
use Rattle.places.specs.declared.place.Place.{Place}
use Rattle.profile.specs.declared.point.Point.{Point}
use Rattle.profile.specs.declared.unchecked.Shape.{Shape}

-- what a shape fixes: densa_of's glb and the divisor of its gamma, zg2_of and tt_of below za, and the curve there, read at za
unfoldable pub spine_of : Shape → Float → List Float → Spine
spine_of h zlb zn =
    let za = zn ‼ 0 in
    let zg2 = zeta_of h.re za zlb in
    let tt = bates_of h.tinf h.tlb h.s zg2 in
    let l = layer_of h.re zn (set h.tn 0 tt) 5 (set h.tgn 0 (gradient_of h.re h.tinf tt zlb h.s za)) za in
    record {
      base = h.gsurf ⊘ pow_of (1·0 ⊕ zlb ⊘ h.re) 2·0;
      k = h.s ⊗ h.rgas ⊗ h.tinf;
      rgas = h.rgas;
      s = h.s;
      zg2 = zg2;
      tt = tt;
      rt = h.tlb ⊘ tt;
      lt = log_of (h.tlb ⊘ tt);
      glb = h.gsurf ⊘ pow_of (1·0 ⊕ l.z1 ⊘ h.re) 2·0;
      t1 = l.t1;
      zgdif = l.zgdif;
      xs = first_five l.xs;
      ys = first_five l.ys;
      y2 = first_five l.y2;
    }

-- an altitude below za, from the spine
unfoldable pub under_of : Float → Spine → Float → Float → Float → Place
under_of re s z za low =
    let a = layer_read s.xs s.ys s.y2 5 (zeta_of re (cond (lt low z) z low) za ⊘ s.zgdif) in
    let tz = 1·0 ⊘ a.y in
    record {
      z = z;
      under = true;
      zg2 = s.zg2;
      tt = s.tt;
      tz = tz;
      glb = s.glb;
      zgdif = s.zgdif;
      yi = a.yi;
      base = s.base;
      k = s.k;
      rgas = s.rgas;
      s = s.s;
      rt = s.rt;
      lt = s.lt;
      r1 = s.t1 ⊘ tz;
      l1 = log_of (s.t1 ⊘ tz);
    }

-- an altitude at or above za, which reads no curve
unfoldable pub over_of : Float → Float → Float → Float → Float → Float → Float → Float → Float → Float → Place
over_of re tinf tlb s2 base k rgas z za zlb =
    let zg2 = zeta_of re (cond (lt za z) z za) zlb in
    let tt = bates_of tinf tlb s2 zg2 in
    record {
      z = z;
      under = false;
      zg2 = zg2;
      tt = tt;
      tz = tt;
      glb = 0·0;
      zgdif = 0·0;
      yi = 0·0;
      base = base;
      k = k;
      rgas = rgas;
      s = s2;
      rt = tlb ⊘ tt;
      lt = log_of (tlb ⊘ tt);
      r1 = 0·0;
      l1 = 0·0;
    }

-- an altitude that is neither, a NaN: its curve is left unset
unfoldable pub unset_place : Float → Float → Spine → Float → Place
unset_place gsurf re s z =
    record {
      z = z;
      under = true;
      zg2 = s.zg2;
      tt = s.tt;
      tz = s.tt;
      glb = gsurf ⊘ pow_of (1·0 ⊕ 0·0 ⊘ re) 2·0;
      zgdif = 0·0;
      yi = 0·0;
      base = s.base;
      k = s.k;
      rgas = s.rgas;
      s = s.s;
      rt = s.rt;
      lt = s.lt;
      r1 = 0·0 ⊘ s.tt;
      l1 = log_of (0·0 ⊘ s.tt);
    }

-- a point with what a gas reads besides it
unfoldable pub place_on : Shape → Float → Point → Place
place_on h zlb p =
    let r1 = cond p.under (p.t1 ⊘ p.tz) 0·0 in
    record {
      z = p.z;
      under = p.under;
      zg2 = p.zg2;
      tt = p.tt;
      tz = p.tz;
      glb = p.glb;
      zgdif = p.zgdif;
      yi = p.yi;
      base = h.gsurf ⊘ pow_of (1·0 ⊕ zlb ⊘ h.re) 2·0;
      k = h.s ⊗ h.rgas ⊗ h.tinf;
      rgas = h.rgas;
      s = h.s;
      rt = h.tlb ⊘ p.tt;
      lt = log_of (h.tlb ⊘ p.tt);
      r1 = r1;
      l1 = cond p.under (log_of r1) 0·0;
    }

-- what an altitude gives: the point that the model's definition reads there
unfoldable pub place_of : Shape → Float → Float → List Float → Place
place_of h z zlb zn = place_on h zlb (point_of h z zlb zn)

-- Below za the spine, which no altitude changes, gives the place
pub under_place : (h : Shape) (z zlb : Float) (zn : List Float) → lt z (zn ‼ 0) ≡ true → lt (zn ‼ 0) z ≡ false
    → under_of h.re (spine_of h zlb zn) z (zn ‼ 0) (zn ‼ 4) ≡ place_of h z zlb zn
unfolding under_of layer_read spine_of place_of place_on point_of on_curve floored_of layer_of
under_place h z zlb zn below not_above = rw (below, not_above, splint_five, splini_five)

-- At or above za
pub over_place : (h : Shape) (z zlb : Float) (zn : List Float) → lt z (zn ‼ 0) ≡ false → le (zn ‼ 0) z ≡ true
    → over_of h.re h.tinf h.tlb h.s (h.gsurf ⊘ pow_of (1·0 ⊕ zlb ⊘ h.re) 2·0) (h.s ⊗ h.rgas ⊗ h.tinf) h.rgas z (zn ‼ 0) zlb ≡ place_of h z zlb zn
unfolding over_of place_of place_on point_of off_curve
over_place h z zlb zn not_below above = rw (not_below, above)

-- the integral over a curve that is left unset
unset_integral : splini_of (replicate 10 0·0) (replicate 10 0·0) (replicate 10 0·0) 5 0·0 ≡ 0·0
unfolding splini_of integral lt of_bits
unset_integral = refl

-- Neither below za nor at or above it
pub unset_place_lem : (h : Shape) (z zlb : Float) (zn : List Float) → lt z (zn ‼ 0) ≡ false → le (zn ‼ 0) z ≡ false → lt (zn ‼ 0) z ≡ false
    → unset_place h.gsurf h.re (spine_of h zlb zn) z ≡ place_of h z zlb zn
unfolding unset_place spine_of place_of place_on point_of on_curve unset_curve
unset_place_lem h z zlb zn not_below not_at not_above = rw (not_below, not_at, not_above, unset_integral)

tz_same : (b : Bool) (h : Shape) (zlb : Float) (p q : Point) (t : Float) → p.tz ≡ t → q.tz ≡ t → (place_on h zlb (cond b p q)).tz ≡ t
unfolding place_on
tz_same true h zlb p q t e f = e
tz_same false h zlb p q t e f = f

-- the temperature there, and at or above za
pub over_temperature : (h : Shape) (z zlb : Float) (zn : List Float) → lt z (zn ‼ 0) ≡ false
    → tt_of h.re z h.tinf h.tlb zlb h.s (zn ‼ 0) ≡ (place_of h z zlb zn).tz
unfolding place_of point_of on_curve off_curve unset_curve
over_temperature h z zlb zn not_below =
    rw not_below
    (sym (tz_same (le (zn ‼ 0) z) h zlb _ _ (tt_of h.re z h.tinf h.tlb zlb h.s (zn ‼ 0)) refl refl))
