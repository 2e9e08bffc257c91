-- The terms under their switches, the cosines with a phase, and the weighted sum, as the Rust writes them.
use Rattle.std.specs.Prelude.{ℕ, zero, suc, ◌+◌, Bool, cond, not, ◌&&◌, ◌||◌, List, Float}
use Rattle.std.specs.Float.Ieee.{neg, lt, le, eq, ne}
use Rattle.numbers.specs.Arithmetic.{◌⊕◌, ◌⊗◌, ◌‼◌}
use Rattle.numbers.specs.Literals.{0·0, 1000·0, 1·0}
use Rattle.numbers.specs.Tests.{abs_of}
use Rattle.setting.specs.declared.View.{View}
use Rattle.views.specs.Phases.{annual_cos_of, semiannual_cos_of, local_cos_of, ut_cos_of, ut_long_cos_of, long_phase_cos_of}
use Rattle.expansion_parts.specs.declared.Seasons.{Seasons}
use Rattle.expansion_parts.specs.declared.LongitudeSeasons.{LongitudeSeasons}
use Rattle.terms.specs.Terms.{flux_factor_of, diurnal_of, semidiurnal_of, terdiurnal_of, local_time_part_of, activity_term_of, long_cos_of, long_sin_of, ut_mean_of, ut_long_of, activity_long_of, activity_annual_of, activity_ut_of, diurnal_sof, semidiurnal_sof, terdiurnal_sof, daily_sof, history_sof, season_sof, long_cos_sof, long_sin_sof}

-- The four cosines of the day, from their phases and of a set
abbrev pub day_cosines_at : Float → Float → Float → Float → Float → Seasons
day_cosines_at doy p31 p17 p13 p38 =
    record { cd32 = annual_cos_of doy p31; cd18 = semiannual_cos_of doy p17; cd14 = annual_cos_of doy p13; cd39 = semiannual_cos_of doy p38 }

unfoldable pub day_cosines_of : Float → List Float → Seasons
day_cosines_of doy p = day_cosines_at doy (p ‼ 31) (p ‼ 17) (p ‼ 13) (p ‼ 38)

-- The four that the longitude's term of glob7s reads besides, from their phases and of a set
abbrev pub longitude_cosines_at : Float → Float → Float → Float → Float → LongitudeSeasons
longitude_cosines_at doy p81 p86 p84 p88 =
    record { cd82 = annual_cos_of doy p81; cd87 = semiannual_cos_of doy p86; cd85 = annual_cos_of doy p84; cd89 = semiannual_cos_of doy p88 }

unfoldable pub longitude_cosines_of : Float → List Float → LongitudeSeasons
longitude_cosines_of doy p = longitude_cosines_at doy (p ‼ 81) (p ‼ 86) (p ‼ 84) (p ‼ 88)

-- t[6]: 0 where switch 7 is off
unfoldable pub t6_of : List Float → List (List Float) → Float → Float → Float → Float → Float → Float → Float
t6_of p g sw7 f2 cd14 c5 ct st =
    cond (ne sw7 0·0) (diurnal_of p g f2 cd14 c5 ct st) (
    0·0)

-- t[7]: 0 where switch 8 is off
unfoldable pub t7_of : List Float → List (List Float) → Float → Float → Float → Float → Float → Float → Float
t7_of p g sw8 f2 cd14 c5 c2t s2t =
    cond (ne sw8 0·0) (semidiurnal_of p g f2 cd14 c5 c2t s2t) (
    0·0)

-- t[13]: 0 where switch 14 is off
unfoldable pub t13_of : List Float → List (List Float) → Float → Float → Float → Float → Float → Float → Float
t13_of p g sw14 f2 cd14 c5 c3t s3t =
    cond (ne sw14 0·0) (terdiurnal_of p g f2 cd14 c5 c3t s3t) (
    0·0)

-- t[8] in history mode
unfoldable pub history8_of : View → List Float → List (List Float) → Float → Float → Float
history8_of v p g cd14 apt =
    cond (not (ne (p ‼ 51) 0·0)) (0·0) (
    cond (not (ne (v.sw ‼ 9) 0·0)) (0·0) (
    let y = local_cos_of v.lst (p ‼ 131) in
    let z = local_time_part_of g (p ‼ 128) (p ‼ 129) (p ‼ 130) (v.swc ‼ 7) y in
    activity_term_of g apt (p ‼ 50) (p ‼ 96) (p ‼ 54) (p ‼ 125) (p ‼ 126) (p ‼ 127) cd14 (v.swc ‼ 5) z))

-- t[8] with the daily activity
unfoldable pub daily8_of : View → List Float → List (List Float) → Float → Float → Float
daily8_of v p g cd14 apdf =
    cond (not (ne (v.sw ‼ 9) 0·0)) (0·0) (
    let y = local_cos_of v.lst (p ‼ 124) in
    let z = local_time_part_of g (p ‼ 121) (p ‼ 122) (p ‼ 123) (v.swc ‼ 7) y in
    activity_term_of g apdf (p ‼ 32) (p ‼ 45) (p ‼ 34) (p ‼ 100) (p ‼ 101) (p ‼ 102) cd14 (v.swc ‼ 5) z)

-- t[8]: magnetic activity
unfoldable pub t8_of : View → List Float → List (List Float) → Float → Float → Float → Float
t8_of v p g cd14 apdf apt =
    cond (eq (v.sw ‼ 9) (neg 1·0)) (history8_of v p g cd14 apt) (
    daily8_of v p g cd14 apdf)

-- switch 10 is on, and g_long is above the value that stands for none
abbrev pub has_longitude_of : View → Bool
has_longitude_of v = ne (v.sw ‼ 10) 0·0 && lt (neg 1000·0) v.g_long

-- t[10]: longitudinal
unfoldable pub t10_of : View → List Float → List (List Float) → Float → Float
t10_of v p g cd14 =
    cond (not (has_longitude_of v)) (0·0) (
    cond (not (ne (v.sw ‼ 11) 0·0)) (0·0) (
    let b = flux_factor_of (p ‼ 80) v.dfa (v.swc ‼ 1) in
    let x = long_cos_of p g (v.swc ‼ 5) cd14 in
    let y = long_sin_of p g (v.swc ‼ 5) cd14 in
    b ⊗ (x ⊗ v.clong ⊕ y ⊗ v.slong)))

-- t[11]: UT and mixed UT and longitude
unfoldable pub t11_of : View → List Float → List (List Float) → Float → Float
t11_of v p g cd14 =
    cond (not (has_longitude_of v)) (0·0) (
    cond (not (ne (v.sw ‼ 12) 0·0)) (0·0) (
    let b81 = flux_factor_of (p ‼ 81) v.dfa (v.swc ‼ 1) in
    let b137 = flux_factor_of (p ‼ 137) v.dfa (v.swc ‼ 1) in
    let y = ut_cos_of v.sec (p ‼ 71) in
    let z = ut_long_cos_of v.sec (p ‼ 79) v.g_long in
    let a = ut_mean_of p g b81 (v.swc ‼ 5) cd14 y in
    let b = ut_long_of p g (v.swc ‼ 11) z b137 in
    a ⊕ b))

-- t[12] in history mode
unfoldable pub history12_of : View → List Float → List (List Float) → Float → Float → Float
history12_of v p g cd14 apt =
    cond (not (ne (p ‼ 51) 0·0)) (0·0) (
    let y0 = long_phase_cos_of v.g_long (p ‼ 97) in
    let y1 = long_phase_cos_of v.g_long (p ‼ 136) in
    let y2 = ut_cos_of v.sec (p ‼ 58) in
    let a = activity_long_of g apt (v.swc ‼ 11) (p ‼ 132) (p ‼ 52) (p ‼ 98) (p ‼ 67) y0 in
    let b = activity_annual_of g apt (v.swc ‼ 11) (v.swc ‼ 5) (p ‼ 133) (p ‼ 134) (p ‼ 135) cd14 y1 in
    let d = activity_ut_of g apt (v.swc ‼ 12) (p ‼ 55) (p ‼ 56) (p ‼ 57) y2 in
    a ⊕ b ⊕ d)

-- t[12] with the daily activity
unfoldable pub daily12_of : View → List Float → List (List Float) → Float → Float → Float
daily12_of v p g cd14 apdf =
    let y0 = long_phase_cos_of v.g_long (p ‼ 63) in
    let y1 = long_phase_cos_of v.g_long (p ‼ 118) in
    let y2 = ut_cos_of v.sec (p ‼ 75) in
    let a = activity_long_of g apdf (v.swc ‼ 11) (p ‼ 120) (p ‼ 60) (p ‼ 61) (p ‼ 62) y0 in
    let b = activity_annual_of g apdf (v.swc ‼ 11) (v.swc ‼ 5) (p ‼ 115) (p ‼ 116) (p ‼ 117) cd14 y1 in
    let d = activity_ut_of g apdf (v.swc ‼ 12) (p ‼ 83) (p ‼ 84) (p ‼ 85) y2 in
    a ⊕ b ⊕ d

-- t[12]: UT, longitude and magnetic activity
unfoldable pub t12_of : View → List Float → List (List Float) → Float → Float → Float → Float
t12_of v p g cd14 apdf apt =
    cond (not (has_longitude_of v)) (0·0) (
    cond (not (ne (v.sw ‼ 13) 0·0)) (0·0) (
    cond (eq (v.sw ‼ 9) (neg 1·0)) (history12_of v p g cd14 apt) (
    daily12_of v p g cd14 apdf)))

unfoldable pub weighted_from : ℕ → List Float → List Float → ℕ → Float → Float
weighted_from zero sw t i v = v
weighted_from (suc m) sw t i v = weighted_from m sw t (i + 1) (v ⊕ abs_of (sw ‼ (i + 1)) ⊗ t ‼ i)

-- first + |sw[1]| * t[0] + .. + |sw[14]| * t[13], from the left
unfoldable pub weighted_of : Float → List Float → List Float → Float
weighted_of first sw t =
    weighted_from 14 sw t 0 first

-- t[8] of glob7s
unfoldable pub t8s_of : View → List Float → List (List Float) → Float → Float → Float
t8s_of v p g apdf apt =
    cond (not (ne (v.sw ‼ 9) 0·0)) (0·0) (
    cond (eq (v.sw ‼ 9) (neg 1·0)) (history_sof p g apt (v.swc ‼ 2)) (
    cond (eq (v.sw ‼ 9) 1·0) (daily_sof p g apdf (v.swc ‼ 2)) (
    0·0)))

-- t[10] of glob7s: longitudinal; e are its cosines of the day
unfoldable pub t10s_given : View → List Float → List (List Float) → LongitudeSeasons → Float
t10s_given v p g e =
    cond (((eq (v.sw ‼ 10) 0·0) || (eq (v.sw ‼ 11) 0·0)) || (le v.g_long (neg 1000·0))) (0·0) (
    let a = season_sof p g (v.swc ‼ 3) (v.swc ‼ 4) (v.swc ‼ 5) (v.swc ‼ 6) e.cd82 e.cd87 e.cd85 e.cd89 in
    let b = long_cos_sof p g in
    let d = long_sin_sof p g in
    a ⊗ (b ⊗ v.clong ⊕ d ⊗ v.slong))

unfoldable pub t10s_of : View → List Float → List (List Float) → Float
t10s_of v p g = t10s_given v p g (longitude_cosines_of v.doy p)

-- t[6] of glob7s: 0 where switch 7 is off
unfoldable pub t6s_of : List Float → List (List Float) → Float → Float → Float → Float → Float → Float
t6s_of p g sw7 cd14 c5 ct st =
    cond (ne sw7 0·0) (diurnal_sof p g cd14 c5 ct st) (
    0·0)

-- t[7] of glob7s: 0 where switch 8 is off
unfoldable pub t7s_of : List Float → List (List Float) → Float → Float → Float → Float → Float → Float
t7s_of p g sw8 cd14 c5 c2t s2t =
    cond (ne sw8 0·0) (semidiurnal_sof p g cd14 c5 c2t s2t) (
    0·0)

-- t[13] of glob7s: 0 where switch 14 is off
unfoldable pub t13s_of : List Float → List (List Float) → Float → Float → Float → Float
t13s_of p g sw14 c3t s3t =
    cond (ne sw14 0·0) (terdiurnal_sof p g c3t s3t) (
    0·0)
