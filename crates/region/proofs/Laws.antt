-- The logarithms of places that were worked out, and the temperature at one.
use mathlib.Core.Path.{◌≡◌, refl, sym, ap, ◌∙◌, subst}
use mathlib.Core.Bool.{Bool, true, false, cond}
use mathlib.Core.List.{List}
use lib.Ieee.{Float, lt}
use Rattle.numbers.specs.Arithmetic.{◌‼◌}
use Rattle.numbers.specs.Literals.{72·5}
use Rattle.elementary.specs.Log.{log_of}
use Rattle.places.specs.Place.{under_of}
use Rattle.places.specs.Thinning.{Logged}
use Rattle.places.specs.declared.place.Spine.{Spine}
use Rattle.places.specs.declared.place.Place.{Place}
use Rattle.profile.specs.declared.unchecked.Shape.{Shape}
use Rattle.species.proofs.Laws.{logged_at}
use Rattle.region.specs.declared.Turbopauses.{Turbopauses}
use Rattle.species.specs.Places.{place_at}
use Rattle.tables.specs.Tables.{pdl_t1}
use Rattle.region.specs.Region.{turbopauses_of, temperature_at}

pub turbopauses_logged : (h : Shape) (zhf : Float) (w : Turbopauses) → w ≡ turbopauses_of h zhf → Logged w.n2 × Logged w.he × Logged w.o × Logged w.h
unfolding turbopauses_of
turbopauses_logged h zhf w e = (
  logged_at h _ w.n2 (ap (λ (x : Turbopauses). x.n2) e),
  logged_at h _ w.he (ap (λ (x : Turbopauses). x.he) e),
  logged_at h _ w.o (ap (λ (x : Turbopauses). x.o) e),
  logged_at h _ w.h (ap (λ (x : Turbopauses). x.h) e),
)

pub under_logged : (re : Float) (s : Spine) (z za low : Float) (p : Place) → p ≡ under_of re s z za low → s.lt ≡ log_of s.rt → Logged p
unfolding under_of
under_logged re s z za low p e l = subst Logged (sym e) (l, refl)

pub warm_under : (h : Shape) (s : Spine) (z r : Float) (p : Place) (l : List Float)
    → p ≡ under_of h.re s z (pdl_t1 ‼ 15) 72·5
    → r ≡ z
    → l ≡ pdl_t1
    → lt r (l ‼ 15) ≡ true
    → p.tz ≡ temperature_at h s r
unfolding temperature_at
warm_under h s z r p l e0 e1 e2 e3 =
    ap (λ (q : Place). q.tz) e0 ∙ ap (λ (x : Float). (under_of h.re s x (pdl_t1 ‼ 15) 72·5).tz) (sym e1)
    ∙ sym (ap (λ (b : Bool). cond b (under_of h.re s r (pdl_t1 ‼ 15) 72·5).tz (place_at h r).tz) (rw e2 at e3))

pub warm_over : (h : Shape) (s : Spine) (r t : Float) → t ≡ (place_at h r).tz → lt r (pdl_t1 ‼ 15) ≡ false → t ≡ temperature_at h s r
unfolding temperature_at
warm_over h s r t e over = rw over e
