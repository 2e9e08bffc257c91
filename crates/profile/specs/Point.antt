-- densu in two parts: what the altitude gives, and what a gas adds to it.
use Rattle.std.specs.Prelude.{◌≡◌, refl, Bool, true, false, cond, not, List, set, Float}
use Rattle.std.specs.Float.Ieee.{neg, lt, le, eq}
use Rattle.numbers.specs.Arithmetic.{◌⊕◌, ◌⊗◌, ◌⊘◌, ◌‼◌}
use Rattle.numbers.specs.Literals.{0·0, 1·0, 2·0, 50·0}
use Rattle.elementary.specs.Exp.{exp_of}
use Rattle.elementary.specs.Pow.{pow_of}
use Rattle.spline.specs.Nodes.{splini_of}
use Rattle.profile.specs.Curve.{floored_of, unset_curve, exponent_of, capped_of}
use Rattle.profile.specs.Profile.{gradient_of, densa_of, densu_above, densu_below, zg2_of, tt_of, densu_of, densu5_of}
use Rattle.profile.specs.declared.curve.Curve.{Curve}
use Rattle.profile.specs.declared.point.Point.{Point}
use Rattle.profile.specs.declared.unchecked.Shape.{Shape}
use Rattle.profile.specs.declared.unchecked.Profile.{Profile}
use Rattle.profile.specs.declared.unchecked.Profile.TheVariants.{Temperature, Density}

-- an altitude read on a curve: exponent_of's glb, zgdif and yi, which no gas changes
unfoldable pub on_curve : Shape → Float → Float → Float → Curve → Point
on_curve h z zg2 tt l =
    record {
      z = z;
      under = true;
      zg2 = zg2;
      tt = tt;
      t1 = l.t1;
      tz = l.tz;
      glb = h.gsurf ⊘ pow_of (1·0 ⊕ l.z1 ⊘ h.re) 2·0;
      zgdif = l.zgdif;
      yi = splini_of l.xs l.ys l.y2 5 l.x;
    }

-- an altitude at or above za
unfoldable pub off_curve : Float → Float → Float → Point
off_curve z zg2 tt = record { z = z; under = false; zg2 = zg2; tt = tt; t1 = 0·0; tz = tt; glb = 0·0; zgdif = 0·0; yi = 0·0 }

-- what an altitude gives
unfoldable pub point_of : Shape → Float → Float → List Float → Point
point_of h z zlb zn =
    let za = zn ‼ 0 in
    let zg2 = zg2_of h.re z zlb za in
    let tt = tt_of h.re z h.tinf h.tlb zlb h.s za in
    cond (lt z za)
    (on_curve h z zg2 tt (floored_of h.re zn (set h.tn 0 tt) 5 (set h.tgn 0 (gradient_of h.re h.tinf tt zlb h.s za)) z))
    (cond (le za z) (off_curve z zg2 tt) (on_curve h z zg2 tt (unset_curve tt)))

-- densu of a gas at such an altitude
unfoldable pub densu_at : Shape → Point → Float → Float → Float → Float → Profile
densu_at h p dlb xm alpha zlb =
    cond (not p.under) (densu_above h.rgas h.gsurf h.re dlb h.tinf h.tlb xm alpha zlb h.s p.zg2 p.tt)
    (cond (eq xm 0·0) (Temperature p.tz)
    (let densa = densa_of h.rgas h.gsurf h.re dlb h.tinf h.tlb xm alpha zlb h.s p.zg2 p.tt in
    let expl = cond (le p.tz 0·0) 50·0 (capped_of (xm ⊗ p.glb ⊗ p.zgdif ⊘ h.rgas ⊗ p.yi)) in
    Density (densa ⊗ pow_of (p.t1 ⊘ p.tz) (1·0 ⊕ alpha) ⊗ exp_of (neg expl)) p.tz))

split : {A : Type 0} (F : Point → A) (b c : Bool) (x y w : Point) → F (cond b x (cond c y w)) ≡ cond b (F x) (cond c (F y) (F w))
split F true c x y w = refl
split F false true x y w = refl
split F false false x y w = refl

-- The two parts together are densu
pub densu_at_lem : (h : Shape) (z dlb xm alpha zlb : Float) (zn : List Float) → densu_at h (point_of h z zlb zn) dlb xm alpha zlb ≡ densu5_of h z dlb xm alpha zlb zn
unfolding densu_at point_of on_curve off_curve densu5_of densu_of densu_below exponent_of
densu_at_lem h z dlb xm alpha zlb zn = split (λ (p : Point). densu_at h p dlb xm alpha zlb) (lt z (zn ‼ 0)) (le (zn ‼ 0) z) _ _ _

same : (b c : Bool) (z : Float) (x y w : Point) → x.z ≡ z → y.z ≡ z → w.z ≡ z → (cond b x (cond c y w)).z ≡ z
same true c z x y w e f g = e
same false true z x y w e f g = f
same false false z x y w e f g = g

-- a point keeps its altitude
pub point_z : (h : Shape) (z zlb : Float) (zn : List Float) → (point_of h z zlb zn).z ≡ z
unfolding point_of on_curve off_curve
point_z h z zlb zn = same (lt z (zn ‼ 0)) (le (zn ‼ 0) z) z _ _ _ refl refl refl
