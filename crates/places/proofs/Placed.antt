-- A place from the spine of its shape, by the side of za.
use mathlib.Core.Path.{◌≡◌, refl, ap, ◌∙◌}
use mathlib.Core.Bool.{true, false, cond, not, ◌&&◌}
use mathlib.Core.List.{List}
use lib.Ieee.{Float, lt, le}
use Rattle.numbers.specs.Arithmetic.{◌⊕◌, ◌⊗◌, ◌⊘◌, ◌‼◌}
use Rattle.numbers.specs.Booleans.{neither}
use Rattle.numbers.specs.Literals.{0·0, 1·0, 2·0}
use Rattle.elementary.specs.Log.{log_of}
use Rattle.elementary.specs.Pow.{pow_of}
use Rattle.places.specs.Place.{spine_of, under_of, over_of, unset_place, place_on, place_of, under_place, over_place, unset_place_lem}
use Rattle.places.specs.declared.place.Spine.{Spine}
use Rattle.places.specs.declared.place.Place.{Place}
use Rattle.profile.specs.declared.point.Point.{Point}
use Rattle.places.specs.declared.thinning.Thinning.{Thinning}
use Rattle.profile.specs.declared.unchecked.Shape.{Shape}
use Rattle.places.specs.Thinning.{thinned_of}
use Rattle.places.proofs.Order.{lt_asym, both_left, both_right}

pub alone_law : (h : Shape) (z zlb : Float) (zn : List Float) (r : Place) (q : Float)
    → r ≡ over_of h.re h.tinf h.tlb h.s (h.gsurf ⊘ q) (h.s ⊗ h.rgas ⊗ h.tinf) h.rgas z (zn ‼ 0) zlb
    → q ≡ pow_of (1·0 ⊕ zlb ⊘ h.re) 2·0
    → (le (zn ‼ 0) z && not (lt z (zn ‼ 0))) ≡ true
    → r ≡ place_of h z zlb zn
alone_law h z zlb zn r q e f t =
    e ∙ ap (λ (x : Float). over_of h.re h.tinf h.tlb h.s (h.gsurf ⊘ x) (h.s ⊗ h.rgas ⊗ h.tinf) h.rgas z (zn ‼ 0) zlb) f
    ∙ over_place h z zlb zn (both_right (le (zn ‼ 0) z) (lt z (zn ‼ 0)) t) (both_left (le (zn ‼ 0) z) (not (lt z (zn ‼ 0))) t)

pub under_law : (h : Shape) (s : Spine) (z zlb : Float) (zn : List Float) (r : Place)
    → r ≡ under_of h.re s z (zn ‼ 0) (zn ‼ 4)
    → s ≡ spine_of h zlb zn
    → lt z (zn ‼ 0) ≡ true
    → r ≡ place_of h z zlb zn
under_law h s z zlb zn r e f t =
    e ∙ ap (λ (x : Spine). under_of h.re x z (zn ‼ 0) (zn ‼ 4)) f ∙ under_place h z zlb zn t (lt_asym z (zn ‼ 0) t)

pub over_law : (h : Shape) (s : Spine) (z zlb : Float) (zn : List Float) (r : Place)
    → r ≡ over_of h.re h.tinf h.tlb h.s s.base s.k s.rgas z (zn ‼ 0) zlb
    → s ≡ spine_of h zlb zn
    → le (zn ‼ 0) z ≡ true
    → lt z (zn ‼ 0) ≡ false
    → r ≡ place_of h z zlb zn
unfolding spine_of
over_law h s z zlb zn r e f t u =
    e ∙ ap (λ (x : Spine). over_of h.re h.tinf h.tlb h.s x.base x.k x.rgas z (zn ‼ 0) zlb) f ∙ over_place h z zlb zn u t

pub unset_law : (h : Shape) (s : Spine) (z zlb : Float) (zn : List Float) (r : Place)
    → r ≡ unset_place h.gsurf h.re s z
    → s ≡ spine_of h zlb zn
    → le (zn ‼ 0) z ≡ false
    → lt z (zn ‼ 0) ≡ false
    → r ≡ place_of h z zlb zn
unfolding le
unset_law h s z zlb zn r e f t u =
    e ∙ ap (λ (x : Spine). unset_place h.gsurf h.re x z) f ∙ unset_place_lem h z zlb zn u t (neither (lt (zn ‼ 0) z) _ t).0

pub on_law : (h : Shape) (zlb : Float) (p : Point) (q lt r1 l l1 : Float)
    → l1 ≡ cond p.under l 0·0
    → l ≡ log_of r1
    → r1 ≡ cond p.under (p.t1 ⊘ p.tz) 0·0
    → lt ≡ log_of (h.tlb ⊘ p.tt)
    → q ≡ pow_of (1·0 ⊕ zlb ⊘ h.re) 2·0
    → ◌≡◌ {A = Place} (record {
      z = p.z;
      under = p.under;
      zg2 = p.zg2;
      tt = p.tt;
      tz = p.tz;
      glb = p.glb;
      zgdif = p.zgdif;
      yi = p.yi;
      base = h.gsurf ⊘ q;
      k = h.s ⊗ h.rgas ⊗ h.tinf;
      rgas = h.rgas;
      s = h.s;
      rt = h.tlb ⊘ p.tt;
      lt = lt;
      r1 = r1;
      l1 = l1;
    }) (place_on h zlb p)
unfolding place_on
on_law h zlb p q lt r1 l l1 e0 e1 e2 e3 e4 = simp (e0, e1, e2, e3, e4)

pub thinned_law : (t : Thinning) (dlb : Float) → t.none ≡ false → not t.under ≡ false → dlb ⊗ t.p ⊗ t.e ⊗ t.q ⊗ t.k ≡ thinned_of t dlb
unfolding thinned_of
thinned_law t dlb e f = rw (e, f)

pub temperature_of_law : (h : Shape) (s : Spine) (z zlb : Float) (zn : List Float) (r : Float)
    → r ≡ (under_of h.re s z (zn ‼ 0) (zn ‼ 4)).tz
    → s ≡ spine_of h zlb zn
    → lt z (zn ‼ 0) ≡ true
    → r ≡ (place_of h z zlb zn).tz
temperature_of_law h s z zlb zn r e f t = e ∙ ap (λ (p : Place). p.tz) (under_law h s z zlb zn _ refl f t)
