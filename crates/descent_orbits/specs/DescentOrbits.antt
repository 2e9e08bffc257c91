-- Document 02, W-212, over a given density at each altitude in whole millimetres: what an orbit does, the descent, and refusals 17, 18 and 19.
use Rattle.std.specs.Prelude.{ℕ, ◌+◌, ◌-◌, ◌*◌, ◌/◌, Bool, false, cond, not, ◌&&◌, ◌||◌, List, [], ◌∷◌, leb, ltb, ℤ, pos, negsuc, length, Float}
use Rattle.std.specs.Float.{nan, inf, fin, binary64}
use Rattle.std.specs.Float.Ieee.{up, down, lt, is_nan, of_int}
use Rattle.numbers.specs.Arithmetic.{◌⊗◌, ◌⊘◌}
use Rattle.numbers.specs.Literals.{0·0, 1·0E6, 1·0E9, 1·0E15}
use Rattle.refusals.specs.Refusals.{Accepted, Answer, Refused}
use Rattle.refusals.specs.declared.Reason.TheVariants.{ListOfLosses, SettingOutside, StartOutside}
use Rattle.descent_orbits.specs.declared.Ending.{Ending}
use Rattle.descent_orbits.specs.declared.Ending.TheVariants.{NoDensity, Reached, Spent}
use Rattle.descent_orbits.specs.declared.Orbit.{Orbit}
use Rattle.descent_orbits.specs.declared.Orbit.TheVariants.{Ends, Loses}

-- ---- an orbit

-- 200 km and 1,000 km in millimetres
abbrev pub lowest_altitude : ℕ
lowest_altitude = 200000000

abbrev pub highest_altitude : ℕ
highest_altitude = 1000000000

-- 'The density is taken at millimetres / 1E6 km'
unfoldable pub kilometres_of_millimetres : ℕ → Float
kilometres_of_millimetres a = of_int binary64 (pos a) ⊘ 1·0E6

-- '(d[5] × 1E15) × setting'
abbrev pub density_by_setting : Float → ℤ → Float
density_by_setting d s = (d ⊗ 1·0E15) ⊗ of_int binary64 s

-- 'negative, NaN or above 1E9'; -0 is not negative
unfoldable pub no_density_of : Float → Bool
no_density_of x = (lt x 0·0 || is_nan x) || lt 1·0E9 x

-- 'the whole part' of a finite number that is not negative: a number m · 2 ^ e is a fraction of two whole ones, divided with the rest dropped
abbrev pub whole_part : Float → ℕ
whole_part nan = 0
whole_part (inf s) = 0
whole_part (fin s m e) = m * up e / down e

-- the orbit at a millimetres with the product x: 'no density when the product is negative, NaN or above 1E9; else as reached when the loss would take
-- it below 200 km, without taking that loss'
unfoldable pub orbit_of : ℕ → Float → Orbit
orbit_of a x =
    cond (no_density_of x) (Ends NoDensity)
    (cond (ltb a (lowest_altitude + whole_part x)) (Ends Reached)
    (Loses (whole_part x)))

-- ---- the descent

-- 'the ending, the last altitude' and the losses taken, first orbit first
pub record Descent : Type 0 where
  pub ending : Ending
  pub last : ℕ
  pub losses : List ℕ

abbrev pub ended : Ending → ℕ → Descent
ended e a = record { ending = e; last = a; losses = [] }

abbrev pub lost : ℕ → Descent → Descent
lost l r = record { ending = r.ending; last = r.last; losses = l ∷ r.losses }

-- an orbit at a millimetres, and what follows from where it leaves off
abbrev pub orbit_then : Orbit → ℕ → (ℕ → Descent) → Descent
orbit_then (Ends e) a rest = ended e a
orbit_then (Loses l) a rest = lost l (rest (a - l))

-- the descent from a millimetres with a setting for each orbit, 'spent only when all orbits are done'; d is d[5] at an altitude in millimetres
unfoldable pub descent_from : (ℕ → Float) → ℕ → List ℤ → Descent
descent_from d a [] = ended Spent a
descent_from d a (s ∷ ss) = orbit_then (orbit_of a (density_by_setting (d a) s)) a (λ (b : ℕ). descent_from d b ss)

-- ---- refusals

-- from lo to hi, both included
abbrev pub whole_within : ℕ → ℕ → ℤ → Bool
whole_within lo hi (pos a) = leb lo a && leb a hi
whole_within lo hi (negsuc a) = false

-- 'a start outside 200 to 1,000 km' is refused
abbrev pub start_within : ℤ → Bool
start_within start = whole_within lowest_altitude highest_altitude start

-- its millimetres; one below 0 is refused
abbrev pub millimetres_of : ℤ → ℕ
millimetres_of (pos a) = a
millimetres_of (negsuc a) = 0

-- 'a setting 1 to 4'
abbrev pub setting_within : ℤ → Bool
setting_within s = whole_within 1 4 s

-- the index of the first setting outside 1 to 4, or how many settings there are; i were passed
unfoldable pub unfit_setting_from : ℕ → List ℤ → ℕ
unfit_setting_from i [] = i
unfit_setting_from i (s ∷ ss) = cond (not (setting_within s)) i (unfit_setting_from (i + 1) ss)

abbrev pub unfit_setting : List ℤ → ℕ
unfit_setting ss = unfit_setting_from 0 ss

-- '17, a start outside 200 to 1,000 km (place 0), then 18, the first setting outside 1 to 4 (place, its orbit from 1), then 19, more than 10,000
-- settings (place 10,000), else a loss list shorter than the settings (place, the length needed)'
unfoldable pub descent_refusal : ℤ → List ℤ → ℕ → Answer
descent_refusal start ss room =
    cond (not (start_within start)) (Refused StartOutside 0)
    (cond (ltb (unfit_setting ss) (length ss)) (Refused SettingOutside (unfit_setting ss + 1))
    (cond (ltb 10000 (length ss)) (Refused ListOfLosses 10000)
    (cond (ltb room (length ss)) (Refused ListOfLosses (length ss)) Accepted)))
