-- The longitudinal term of glob7s from the values of its calls.
use mathlib.Core.Path.{◌≡◌}
use mathlib.Core.Bool.{false, ◌||◌}
use mathlib.Core.List.{List}
use lib.Ieee.{Float, neg, le, eq}
use Rattle.numbers.specs.Arithmetic.{◌⊕◌, ◌⊗◌, ◌‼◌}
use Rattle.numbers.specs.Literals.{0·0, 1000·0}
use Rattle.setting.specs.declared.View.{View}
use Rattle.terms.specs.Terms.{season_sof, long_cos_sof, long_sin_sof}
use Rattle.expansion_parts.specs.declared.LongitudeSeasons.{LongitudeSeasons}
use Rattle.expansion_parts.specs.ExpansionParts.{t10s_given}

pub t10s_law : (v : View) (p : List Float) (g : List (List Float))
    (e : LongitudeSeasons) (d : Float) (b : Float) (a : Float)
    → d ≡ long_sin_sof p g
    → b ≡ long_cos_sof p g
    → a ≡ season_sof p g (v.swc ‼ 3) (v.swc ‼ 4) (v.swc ‼ 5) (v.swc ‼ 6) e.cd82 e.cd87 e.cd85 e.cd89
    → (((eq (v.sw ‼ 10) 0·0) || (eq (v.sw ‼ 11) 0·0)) || (le v.g_long (neg 1000·0))) ≡ false
    → ◌≡◌ {A = Float} (a ⊗ (b ⊗ v.clong ⊕ d ⊗ v.slong)) (t10s_given v p g e)
unfolding t10s_given
t10s_law v p g e d b a e0 e1 e2 e3 =
    simp (e0, e1, e2, e3)
