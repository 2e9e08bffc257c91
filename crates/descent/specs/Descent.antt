-- Document 02's W-212, a descent, orbit by orbit: its refusals in order, the descent at the model's densities, and the lent list afterwards.
use Rattle.std.specs.Prelude.{ℕ, cond, not, List, ℤ, pos, length, set, Float, Err, Ok, Result}
use Rattle.numbers.specs.Arithmetic.{◌‼◌}
use Rattle.numbers.specs.Literals.{0·0}
use Rattle.refusals.specs.declared.Refusal.{Refusal}
use Rattle.refusals.specs.Refusals.{Accepted, Answer, Refused, accepted_of, refused_or}
use Rattle.setting.specs.declared.Input.{Input}
use Rattle.acceptance.specs.Acceptance.{judged_of, with_alt_of}
use Rattle.atmosphere.specs.Atmosphere.{eleven_of}
use Rattle.descent_orbits.specs.declared.Descended.{Descended}
use Rattle.descent_orbits.specs.DescentOrbits.{kilometres_of_millimetres, millimetres_of, Descent, descent_from, descent_refusal}
use Rattle.descent_orbits.specs.Lent.{end_of_descent, losses_after}

-- 'switch 0 taken as 1', whatever the row says
unfoldable pub unit_row : List ℤ → List ℤ
unit_row w = set w 0 (pos 1)

-- d[5] of the one-altitude call at an altitude in millimetres
unfoldable pub density_at : List ℤ → Input → ℕ → Float
density_at w n a = eleven_of w (with_alt_of n (kilometres_of_millimetres a)) ‼ 5

-- the descent of a record
unfoldable pub descent_of : List ℤ → Input → ℤ → List ℤ → Descent
descent_of w n start ss = descent_from (density_at (unit_row w) n) (millimetres_of start) ss

-- 'after the one-altitude refusals for the record, its altitude not looked at, 17, .. then 18, .. then 19'. Of these 10 is for altitudes below 72.5 km, which
-- a descent never comes to: it stays at or above 200 km (km-mixed)
unfoldable pub descent_checked : List ℤ → Input → ℤ → List ℤ → ℕ → Answer
descent_checked w n start ss room =
    cond (not (accepted_of (judged_of w (with_alt_of n 0·0)))) (judged_of w (with_alt_of n 0·0)) (descent_refusal start ss room)

-- the answer, with a lent list of room losses
unfoldable pub descent_answer : List ℤ → Input → ℤ → List ℤ → ℕ → Result Descended Refusal
descent_answer w n start ss room = refused_or (descent_checked (unit_row w) n start ss room) (Ok (end_of_descent (descent_of w n start ss)))

-- the lent list afterwards; refused, it is as it was
unfoldable pub descent_losses : List ℤ → Input → ℤ → List ℤ → List ℤ → List ℤ
descent_losses w n start ss xs = cond (accepted_of (descent_checked (unit_row w) n start ss (length xs))) (losses_after (descent_of w n start ss) xs) xs
