-- A gas at a place that was worked out before: densu.
use mathlib.Core.Path.{◌≡◌, refl, sym, ap, ◌∙◌}
use mathlib.Core.Bool.{Bool}
use mathlib.Core.List.{List, [], ◌∷◌}
use lib.Ieee.{Float, of_bits, to_bits, mul, round, lt, eq, is_nan}
use Rattle.numbers.specs.Arithmetic.{◌⊗◌, ◌‼◌}
use Rattle.numbers.specs.Literals.{72·5, 90·0, 100·0, 110·0}
use Rattle.square_root.specs.Root.{nearest_of, root_of, sqrt_of}
use Rattle.tables.specs.Tables.{ptm_t, pdl_t0, pdl_t1}
use Rattle.places.specs.Place.{spine_of, place_of}
use Rattle.places.specs.Thinning.{Logged, logged, place_temperature}
use Rattle.places.specs.declared.place.Spine.{Spine}
use Rattle.places.specs.declared.place.Place.{Place}
use Rattle.places.specs.declared.thinning.Thinning.{Thinning}
use Rattle.profile.specs.declared.unchecked.Shape.{Shape}
use Rattle.species.specs.Species.{nodes, temperature_of}
use Rattle.species.specs.Places.{spine_at, place_at, Mixes}
use Rattle.species.specs.Rooted.{mixing_of}

pub logged_at : (h : Shape) (z : Float) (p : Place) → p ≡ place_at h z → Logged p
logged_at h z p e = logged h z (ptm_t ‼ 5) nodes p e

-- what thins out the mixed densities, where one is mixed
pub mixes : (on : Bool) (p : Place) (xmm : Float) (r : Thinning) → r ≡ mixing_of on p xmm → Mixes on p xmm r
unfolding mixing_of
mixes on p xmm r e = λ o. e ∙ ap (λ (b : Bool). mixing_of b p xmm) o

-- gts7's nodes, from its tables
pub spine_needs : (h : Shape) (s : Spine) (m zn : List Float) → s ≡ spine_at h → m ≡ ptm_t → zn ≡ nodes → s ≡ spine_of h (m ‼ 5) zn
spine_needs h s m zn e0 e1 e2 = rw (e1, e2) e0

pub temperature_law : (h : Shape) (z r : Float) (m zn : List Float) → r ≡ (place_of h z (m ‼ 5) zn).tz → m ≡ ptm_t → zn ≡ nodes → r ≡ temperature_of h z
unfolding temperature_of
temperature_law h z r m zn e0 e1 e2 = (rw (e1, e2) at e0) ∙ place_temperature h z (ptm_t ‼ 5) nodes

-- a place has the temperature of its altitude
pub place_has : (h : Shape) (z : Float) → (place_at h z).tz ≡ temperature_of h z
unfolding temperature_of
place_has h z = place_temperature h z (ptm_t ‼ 5) nodes

-- ---- the roots of two coefficients' squares

pub root_17 : sqrt_of (pdl_t1 ‼ 17 ⊗ pdl_t1 ‼ 17) ≡ pdl_t1 ‼ 17
unfolding sqrt_of root_of nearest_of pdl_t1 of_bits to_bits mul round lt eq is_nan
root_17 = refl

pub root_2 : sqrt_of (pdl_t0 ‼ 2 ⊗ pdl_t0 ‼ 2) ≡ pdl_t0 ‼ 2
unfolding sqrt_of root_of nearest_of pdl_t0 of_bits to_bits mul round lt eq is_nan
root_2 = refl
