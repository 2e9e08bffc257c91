-- The terms of globe7 and of glob7s, as the Rust writes them: coefficients p, Legendre values g.
use Rattle.std.specs.Prelude.{List, Float}
use Rattle.numbers.specs.Arithmetic.{◌⊕◌, ◌⊗◌, ◌‼◌, at}
use Rattle.numbers.specs.Literals.{1·0}

-- t[0]: the F10.7 effect
unfoldable pub t0_of : List Float → Float → Float → Float → Float
t0_of p df dfa dfa2 =
    p ‼ 19 ⊗ df ⊗ (1·0 ⊕ p ‼ 59 ⊗ dfa) ⊕ p ‼ 20 ⊗ df ⊗ df ⊕ p ‼ 21 ⊗ dfa ⊕ p ‼ 29 ⊗ dfa2

-- f1 of globe7
unfoldable pub f1_of : List Float → Float → Float → Float → Float
f1_of p df dfa c1 =
    1·0 ⊕ (p ‼ 47 ⊗ dfa ⊕ p ‼ 19 ⊗ df ⊕ p ‼ 20 ⊗ df ⊗ df) ⊗ c1

-- f2 of globe7
unfoldable pub f2_of : List Float → Float → Float → Float → Float
f2_of p df dfa c1 =
    1·0 ⊕ (p ‼ 49 ⊗ dfa ⊕ p ‼ 19 ⊗ df ⊕ p ‼ 20 ⊗ df ⊗ df) ⊗ c1

-- 1 + x * dfa * swc[1], the factor of the flux in terms 10 and 11
unfoldable pub flux_factor_of : Float → Float → Float → Float
flux_factor_of x dfa c1 =
    1·0 ⊕ x ⊗ dfa ⊗ c1

-- t[1]: time independent
unfoldable pub t1_of : List Float → List (List Float) → Float → Float → Float
t1_of p g dfa c1 =
    p ‼ 1 ⊗ at g 0 2 ⊕ p ‼ 2 ⊗ at g 0 4 ⊕ p ‼ 22 ⊗ at g 0 6 ⊕ p ‼ 14 ⊗ at g 0 2 ⊗ dfa ⊗ c1 ⊕ p ‼ 26 ⊗ at g 0 1

-- t[3]: symmetrical semiannual
unfoldable pub t3_of : List Float → List (List Float) → Float → Float
t3_of p g cd18 =
    (p ‼ 15 ⊕ p ‼ 16 ⊗ at g 0 2) ⊗ cd18

-- t[4]: asymmetrical annual
unfoldable pub t4_of : List Float → List (List Float) → Float → Float → Float
t4_of p g f1 cd14 =
    f1 ⊗ (p ‼ 9 ⊗ at g 0 1 ⊕ p ‼ 10 ⊗ at g 0 3) ⊗ cd14

-- t[5]: asymmetrical semiannual, the same in globe7 and glob7s
unfoldable pub t5_of : List Float → List (List Float) → Float → Float
t5_of p g cd39 =
    p ‼ 37 ⊗ at g 0 1 ⊗ cd39

-- t[6]: diurnal
unfoldable pub diurnal_of : List Float → List (List Float) → Float → Float → Float → Float → Float → Float
diurnal_of p g f2 cd14 c5 ct st =
    let t71 = p ‼ 11 ⊗ at g 1 2 ⊗ cd14 ⊗ c5 in
    let t72 = p ‼ 12 ⊗ at g 1 2 ⊗ cd14 ⊗ c5 in
    f2 ⊗ ((p ‼ 3 ⊗ at g 1 1 ⊕ p ‼ 4 ⊗ at g 1 3 ⊕ p ‼ 27 ⊗ at g 1 5 ⊕ t71) ⊗ ct ⊕ (p ‼ 6 ⊗ at g 1 1 ⊕ p ‼ 7 ⊗ at g 1 3 ⊕ p ‼ 28 ⊗ at g 1 5 ⊕ t72) ⊗ st)

-- t[7]: semidiurnal
unfoldable pub semidiurnal_of : List Float → List (List Float) → Float → Float → Float → Float → Float → Float
semidiurnal_of p g f2 cd14 c5 c2t s2t =
    let t81 = (p ‼ 23 ⊗ at g 2 3 ⊕ p ‼ 35 ⊗ at g 2 5) ⊗ cd14 ⊗ c5 in
    let t82 = (p ‼ 33 ⊗ at g 2 3 ⊕ p ‼ 36 ⊗ at g 2 5) ⊗ cd14 ⊗ c5 in
    f2 ⊗ ((p ‼ 5 ⊗ at g 2 2 ⊕ p ‼ 41 ⊗ at g 2 4 ⊕ t81) ⊗ c2t ⊕ (p ‼ 8 ⊗ at g 2 2 ⊕ p ‼ 42 ⊗ at g 2 4 ⊕ t82) ⊗ s2t)

-- t[13]: terdiurnal
unfoldable pub terdiurnal_of : List Float → List (List Float) → Float → Float → Float → Float → Float → Float
terdiurnal_of p g f2 cd14 c5 c3t s3t =
    f2 ⊗ ((p ‼ 39 ⊗ at g 3 3 ⊕ (p ‼ 93 ⊗ at g 3 4 ⊕ p ‼ 46 ⊗ at g 3 6) ⊗ cd14 ⊗ c5) ⊗ s3t ⊕ (p ‼ 40 ⊗ at g 3 3 ⊕ (p ‼ 94 ⊗ at g 3 4 ⊕ p ‼ 48 ⊗ at g 3 6) ⊗ cd14 ⊗ c5) ⊗ c3t)

-- The part of t[8] that turns with local time
unfoldable pub local_time_part_of : List (List Float) → Float → Float → Float → Float → Float → Float
local_time_part_of g a b d c7 y =
    (a ⊗ at g 1 1 ⊕ b ⊗ at g 1 3 ⊕ d ⊗ at g 1 5) ⊗ c7 ⊗ y

-- t[8] over an activity a (apdf or apt[0]) and its six coefficients
unfoldable pub activity_term_of : List (List Float) → Float → Float → Float → Float → Float → Float → Float → Float → Float → Float → Float
activity_term_of g a k0 k1 k2 k3 k4 k5 cd14 c5 z =
    a ⊗ (k0 ⊕ k1 ⊗ at g 0 2 ⊕ k2 ⊗ at g 0 4 ⊕ (k3 ⊗ at g 0 1 ⊕ k4 ⊗ at g 0 3 ⊕ k5 ⊗ at g 0 5) ⊗ cd14 ⊗ c5 ⊕ z)

-- t[10]: what the cosine of longitude is multiplied by
unfoldable pub long_cos_of : List Float → List (List Float) → Float → Float → Float
long_cos_of p g c5 cd14 =
    p ‼ 64 ⊗ at g 1 2 ⊕ p ‼ 65 ⊗ at g 1 4 ⊕ p ‼ 66 ⊗ at g 1 6 ⊕ p ‼ 103 ⊗ at g 1 1 ⊕ p ‼ 104 ⊗ at g 1 3 ⊕ p ‼ 105 ⊗ at g 1 5
    ⊕ c5 ⊗ (p ‼ 109 ⊗ at g 1 1 ⊕ p ‼ 110 ⊗ at g 1 3 ⊕ p ‼ 111 ⊗ at g 1 5) ⊗ cd14

-- t[10]: what the sine of longitude is multiplied by
unfoldable pub long_sin_of : List Float → List (List Float) → Float → Float → Float
long_sin_of p g c5 cd14 =
    p ‼ 90 ⊗ at g 1 2 ⊕ p ‼ 91 ⊗ at g 1 4 ⊕ p ‼ 92 ⊗ at g 1 6 ⊕ p ‼ 106 ⊗ at g 1 1 ⊕ p ‼ 107 ⊗ at g 1 3 ⊕ p ‼ 108 ⊗ at g 1 5
    ⊕ c5 ⊗ (p ‼ 112 ⊗ at g 1 1 ⊕ p ‼ 113 ⊗ at g 1 3 ⊕ p ‼ 114 ⊗ at g 1 5) ⊗ cd14

-- t[11]: the UT part
unfoldable pub ut_mean_of : List Float → List (List Float) → Float → Float → Float → Float → Float
ut_mean_of p g b81 c5 cd14 y =
    (1·0 ⊕ p ‼ 95 ⊗ at g 0 1) ⊗ b81 ⊗ (1·0 ⊕ p ‼ 119 ⊗ at g 0 1 ⊗ c5 ⊗ cd14) ⊗ ((p ‼ 68 ⊗ at g 0 1 ⊕ p ‼ 69 ⊗ at g 0 3 ⊕ p ‼ 70 ⊗ at g 0 5) ⊗ y)

-- t[11]: the mixed UT and longitude part
unfoldable pub ut_long_of : List Float → List (List Float) → Float → Float → Float → Float
ut_long_of p g c11 y b137 =
    c11 ⊗ (p ‼ 76 ⊗ at g 2 3 ⊕ p ‼ 77 ⊗ at g 2 5 ⊕ p ‼ 78 ⊗ at g 2 7) ⊗ y ⊗ b137

-- t[12]: longitude and activity a
unfoldable pub activity_long_of : List (List Float) → Float → Float → Float → Float → Float → Float → Float → Float
activity_long_of g a c11 k x0 x1 x2 y =
    a ⊗ c11 ⊗ (1·0 ⊕ k ⊗ at g 0 1) ⊗ ((x0 ⊗ at g 1 2 ⊕ x1 ⊗ at g 1 4 ⊕ x2 ⊗ at g 1 6) ⊗ y)

-- t[12]: longitude and activity a over the year
unfoldable pub activity_annual_of : List (List Float) → Float → Float → Float → Float → Float → Float → Float → Float → Float
activity_annual_of g a c11 c5 x0 x1 x2 cd14 y =
    a ⊗ c11 ⊗ c5 ⊗ (x0 ⊗ at g 1 1 ⊕ x1 ⊗ at g 1 3 ⊕ x2 ⊗ at g 1 5) ⊗ cd14 ⊗ y

-- t[12]: UT and activity a
unfoldable pub activity_ut_of : List (List Float) → Float → Float → Float → Float → Float → Float → Float
activity_ut_of g a c12 x0 x1 x2 y =
    a ⊗ c12 ⊗ (x0 ⊗ at g 0 1 ⊕ x1 ⊗ at g 0 3 ⊕ x2 ⊗ at g 0 5) ⊗ y

-- t[1] of glob7s: time independent
unfoldable pub t1s_of : List Float → List (List Float) → Float
t1s_of p g =
    p ‼ 1 ⊗ at g 0 2 ⊕ p ‼ 2 ⊗ at g 0 4 ⊕ p ‼ 22 ⊗ at g 0 6 ⊕ p ‼ 26 ⊗ at g 0 1 ⊕ p ‼ 14 ⊗ at g 0 3 ⊕ p ‼ 59 ⊗ at g 0 5

-- t[2] of glob7s: symmetrical annual
unfoldable pub t2s_of : List Float → List (List Float) → Float → Float
t2s_of p g cd32 =
    (p ‼ 18 ⊕ p ‼ 47 ⊗ at g 0 2 ⊕ p ‼ 29 ⊗ at g 0 4) ⊗ cd32

-- t[3] of glob7s: symmetrical semiannual
unfoldable pub t3s_of : List Float → List (List Float) → Float → Float
t3s_of p g cd18 =
    (p ‼ 15 ⊕ p ‼ 16 ⊗ at g 0 2 ⊕ p ‼ 30 ⊗ at g 0 4) ⊗ cd18

-- t[4] of glob7s: asymmetrical annual
unfoldable pub t4s_of : List Float → List (List Float) → Float → Float
t4s_of p g cd14 =
    (p ‼ 9 ⊗ at g 0 1 ⊕ p ‼ 10 ⊗ at g 0 3 ⊕ p ‼ 20 ⊗ at g 0 5) ⊗ cd14

-- t[6] of glob7s: diurnal
unfoldable pub diurnal_sof : List Float → List (List Float) → Float → Float → Float → Float → Float
diurnal_sof p g cd14 c5 ct st =
    let t71 = p ‼ 11 ⊗ at g 1 2 ⊗ cd14 ⊗ c5 in
    let t72 = p ‼ 12 ⊗ at g 1 2 ⊗ cd14 ⊗ c5 in
    (p ‼ 3 ⊗ at g 1 1 ⊕ p ‼ 4 ⊗ at g 1 3 ⊕ t71) ⊗ ct ⊕ (p ‼ 6 ⊗ at g 1 1 ⊕ p ‼ 7 ⊗ at g 1 3 ⊕ t72) ⊗ st

-- t[7] of glob7s: semidiurnal
unfoldable pub semidiurnal_sof : List Float → List (List Float) → Float → Float → Float → Float → Float
semidiurnal_sof p g cd14 c5 c2t s2t =
    let t81 = (p ‼ 23 ⊗ at g 2 3 ⊕ p ‼ 35 ⊗ at g 2 5) ⊗ cd14 ⊗ c5 in
    let t82 = (p ‼ 33 ⊗ at g 2 3 ⊕ p ‼ 36 ⊗ at g 2 5) ⊗ cd14 ⊗ c5 in
    (p ‼ 5 ⊗ at g 2 2 ⊕ p ‼ 41 ⊗ at g 2 4 ⊕ t81) ⊗ c2t ⊕ (p ‼ 8 ⊗ at g 2 2 ⊕ p ‼ 42 ⊗ at g 2 4 ⊕ t82) ⊗ s2t

-- t[13] of glob7s: terdiurnal
unfoldable pub terdiurnal_sof : List Float → List (List Float) → Float → Float → Float
terdiurnal_sof p g c3t s3t =
    p ‼ 39 ⊗ at g 3 3 ⊗ s3t ⊕ p ‼ 40 ⊗ at g 3 3 ⊗ c3t

-- t[8] of glob7s with the daily activity
unfoldable pub daily_sof : List Float → List (List Float) → Float → Float → Float
daily_sof p g apdf c2 =
    apdf ⊗ (p ‼ 32 ⊕ p ‼ 45 ⊗ at g 0 2 ⊗ c2)

-- t[8] of glob7s with the history
unfoldable pub history_sof : List Float → List (List Float) → Float → Float → Float
history_sof p g apt c2 =
    p ‼ 50 ⊗ apt ⊕ p ‼ 96 ⊗ at g 0 2 ⊗ apt ⊗ c2

-- t[10] of glob7s: its factor over the year
unfoldable pub season_sof : List Float → List (List Float) → Float → Float → Float → Float → Float → Float → Float → Float → Float
season_sof p g c3 c4 c5 c6 y81 y86 y84 y88 =
    1·0 ⊕ at g 0 1 ⊗ (p ‼ 80 ⊗ c5 ⊗ y81 ⊕ p ‼ 85 ⊗ c6 ⊗ y86) ⊕ p ‼ 83 ⊗ c3 ⊗ y84 ⊕ p ‼ 87 ⊗ c4 ⊗ y88

-- t[10] of glob7s: what the cosine of longitude is multiplied by
unfoldable pub long_cos_sof : List Float → List (List Float) → Float
long_cos_sof p g =
    p ‼ 64 ⊗ at g 1 2 ⊕ p ‼ 65 ⊗ at g 1 4 ⊕ p ‼ 66 ⊗ at g 1 6 ⊕ p ‼ 74 ⊗ at g 1 1 ⊕ p ‼ 75 ⊗ at g 1 3 ⊕ p ‼ 76 ⊗ at g 1 5

-- t[10] of glob7s: what the sine of longitude is multiplied by
unfoldable pub long_sin_sof : List Float → List (List Float) → Float
long_sin_sof p g =
    p ‼ 90 ⊗ at g 1 2 ⊕ p ‼ 91 ⊗ at g 1 4 ⊕ p ‼ 92 ⊗ at g 1 6 ⊕ p ‼ 77 ⊗ at g 1 1 ⊕ p ‼ 78 ⊗ at g 1 3 ⊕ p ‼ 79 ⊗ at g 1 5
