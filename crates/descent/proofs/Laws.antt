-- The checks in order, a station's density, and the call's outcomes.
use Prim.Native.Nat.{ℕ, ◌≤◌}
use mathlib.Core.Path.{◌≡◌, refl, sym, ap, ◌∙◌}
use mathlib.Core.Bool.{Bool, true, false, not}
use mathlib.Core.List.{List}
use native.Mathlib.Omega.{arith}
use borrow.Author.Tests.{eq-eqb}
use lib.IntN.{ℤ, pos}
use lib.ListN.{length, replicate, get_or}
use lib.Ieee.{Float}
use Rattle.numbers.specs.Arithmetic.{◌‼◌}
use Rattle.numbers.specs.Literals.{0·0}
use Rattle.std.specs.Prelude.{Result, Ok, Err}
use Rattle.refusals.specs.declared.Refusal.{Refusal}
use Rattle.refusals.specs.Refusals.{Accepted, Answer, Refused, accepted_of}
use Rattle.setting.specs.declared.Input.{Input}
use Rattle.acceptance.specs.Acceptance.{day_within, judged_of, with_alt_of}
use Rattle.atmosphere.specs.Atmosphere.{eleven_of}
use Rattle.shutoff.proofs.Theorems.{row_written}
use Rattle.station_record.specs.Record.{station_whole}
use Rattle.station_answer.specs.Answers.{station_answer, altitude_answer}
use Rattle.station.specs.Station.{station_numbers, whole_after, station_numbers_after, altitude_row}
use Rattle.station.proofs.Theorems.{altitude_told, prepared_held, day_held}
use Rattle.descent_orbits.specs.declared.Orbit.{Orbit}
use Rattle.descent_orbits.specs.declared.Ending.{Ending}
use Rattle.descent_orbits.specs.declared.Descended.{Descended}
use Rattle.descent_orbits.specs.DescentOrbits.{lowest_altitude, highest_altitude, density_by_setting, orbit_of, kilometres_of_millimetres, start_within, millimetres_of, Descent, descent_from, descent_refusal}
use Rattle.descent_orbits.specs.Lent.{end_of_descent, losses_after, Ended}
use Rattle.descent_orbits.specs.Kilometres.{km_finite, km_within, km_mixed}
use Rattle.descent_orbits.specs.Theorems.{same_descent, never_rises, losses_few}
use Rattle.descent_orbits.proofs.Laws.{started}
use Rattle.descent_orbits.proofs.Turns.{Answered}
use Rattle.descent.specs.Descent.{unit_row, density_at, descent_of, descent_checked, descent_answer, descent_losses}
use Rattle.descent.specs.Stored.{station_density}
use Rattle.descent.specs.Theorems.{ending_told, checked_met, of_ended}

-- ---- the checks

-- ---- the density

pub density_read : (whole : List ℤ) (xs : List Float) (a : ℕ) (z : Float) (row : List Float) → z ≡ kilometres_of_millimetres a → row ≡ altitude_row whole xs z (replicate 11 0·0)
    → row ‼ 5 ≡ station_density whole xs a
unfolding station_density
density_read whole xs a z row e f = rw (f, e)

pub orbit_told : (d : ℕ → Float) (a : ℕ) (o : Orbit) (x : Float) (s z : ℤ) → o ≡ orbit_of a (density_by_setting x s) → x ≡ d a → s ≡ z → o ≡ orbit_of a (density_by_setting (d a) z)
orbit_told d a o x s z e f g = e ∙ rw (f, g)

-- an altitude of a descent is accepted
taken : (whole : List ℤ) (xs : List Float) (a : ℕ) → length whole ≡ 27 → length xs ≡ 259 → day_within (get_or whole 1 (pos 0)) ≡ true → lowest_altitude ≤ a → a ≤ highest_altitude
    → altitude_answer 11 whole (length xs) (kilometres_of_millimetres a) ≡ Accepted
unfolding altitude_answer
taken whole xs a e f d l h = rw (eq-eqb _ _ e, eq-eqb _ _ f, d, km_finite a l h, km_within a l h, km_mixed a l h _)

module _ (w : List ℤ) (n : Input) (len : length w ≡ 24) (seven : length n.ap_array ≡ 7) (acc : judged_of w (with_alt_of n 0·0) ≡ Accepted) where
  accepted_station : station_answer w n 27 259 ≡ Accepted
  unfolding station_answer
  accepted_station = acc

  again : (z : Float) → with_alt_of (with_alt_of n 0·0) z ≡ with_alt_of n z
  unfolding with_alt_of
  again z = refl

  -- the density of the station that was prepared is the one-altitude call's
  station_density_lem : (whole : List ℤ) (xs : List Float) → whole ≡ station_whole w (with_alt_of n 0·0) → xs ≡ station_numbers w (with_alt_of n 0·0) → length whole ≡ 27 → length xs ≡ 259
      → (a : ℕ) → lowest_altitude ≤ a → a ≤ highest_altitude → station_density whole xs a ≡ density_at w n a
  unfolding station_density density_at
  station_density_lem whole xs e f g h a l u =
      let m = with_alt_of n 0·0 in
      let held = prepared_held w n len seven accepted_station in
      let t = altitude_told w m (kilometres_of_millimetres a) (replicate 11 0·0) held in
      let d : day_within (get_or whole 1 (pos 0)) ≡ true = rw e (day_held w m held) in
      let k : altitude_answer 11 (station_whole w m) (length (station_numbers w m)) (kilometres_of_millimetres a) ≡ Accepted = rw (← e, ← f) (taken whole xs a g h d l u) in
      let r : altitude_row (station_whole w m) (station_numbers w m) (kilometres_of_millimetres a) (replicate 11 0·0) ≡ eleven_of w (with_alt_of n (kilometres_of_millimetres a)) =
      t.1 ∙ (row_written w (with_alt_of m (kilometres_of_millimetres a)) (replicate 11 0·0) (sym t.0 ∙ k) ∙ ap (eleven_of w) (again (kilometres_of_millimetres a))) in
      rw (e, f, r)

  -- the descent over the station that was prepared in ys and xs; x is the start as the machine reads it, a its millimetres
  pub flown_told : (ys : List ℤ) (xs : List Float) (whole : List ℤ) (numbers : List Float) (start x : ℤ) (a : ℕ) (ss ls ls' : List ℤ) (r : Descended)
      → length ys ≡ 27 → length xs ≡ 259 → whole ≡ whole_after w n ys (length xs) → numbers ≡ station_numbers_after w n (length ys) xs
      → length whole ≡ 27 → length numbers ≡ 259
      → a ≡ millimetres_of x → x ≡ start → start_within start ≡ true
      → Answered (station_density whole numbers) a ss ls r ls'
      → Answered (density_at w n) (millimetres_of start) ss ls r ls'
  unfolding whole_after station_numbers_after station_answer
  flown_told ys xs whole numbers start x a ss ls ls' r ey ex ew en lw ln ea es t d =
      let k = started x start es t in
      let u : whole ≡ station_whole w (with_alt_of n 0·0) = ew ∙ rw (eq-eqb _ _ ey, eq-eqb _ _ ex, acc) in
      let v : numbers ≡ station_numbers w (with_alt_of n 0·0) = en ∙ rw (eq-eqb _ _ ey, eq-eqb _ _ ex, acc) in
      let b : a ≡ millimetres_of start = ea ∙ ap millimetres_of es in
      let same : descent_from (station_density whole numbers) a ss ≡ descent_from (density_at w n) (millimetres_of start) ss =
      rw b (same_descent (station_density whole numbers) (density_at w n) (station_density_lem whole numbers u v lw ln) ss (millimetres_of start) k.least k.most) in
      (d.0 ∙ ap end_of_descent same, d.1 ∙ ap (λ (q : Descent). losses_after q ls) same)

-- ---- the call

-- the last altitude and the count fit the C call's numbers
pub end_fits : (w : List ℤ) (n : Input) (start : ℤ) (ss : List ℤ) (room : ℕ) (d : Descended) → Ok d ≡ descent_answer w n start ss room → (d.last ≤ 1000000000) × (d.taken ≤ 10000)
unfolding descent_answer descent_of end_of_descent
end_fits w n start ss room d h =
    let t = ending_told (descent_checked (unit_row w) n start ss room) _ d (sym h) in
    let m = (checked_met (unit_row w) n start ss room t.0).1 in
    let e = of_ended _ _ t.1 in
    let last : (descent_of w n start ss).last ≡ d.last = ap (λ (x : Descended). x.last) e in
    let count : length (descent_of w n start ss).losses ≡ d.taken = ap (λ (x : Descended). x.taken) e in
    let f = density_at (unit_row w) n in
    let a = millimetres_of start in
    (omega (arith, last, never_rises f ss a, (started start start refl m.within).most), omega (arith, count, losses_few f ss a, m.few))

-- v is the row with switch 0 as 1, x the start as the machine reads it
module _ (w : List ℤ) (n : Input) (start : ℤ) (ss xs v : List ℤ) (ev : v ≡ unit_row w) (x : ℤ) (ex : x ≡ start) where
  abbrev Outcome : Result Descended Refusal → List ℤ → Type 0
  Outcome r xs' = (r ≡ descent_answer w n start ss (length xs)) × (xs' ≡ descent_losses w n start ss xs)

  checks : (a : Answer) → a ≡ descent_checked v n x ss (length xs) → descent_checked (unit_row w) n start ss (length xs) ≡ a
  checks a e = sym (e ∙ rw (ev, ex))

  pub refused : (q : Refusal) → Err q ≡ descent_checked v n x ss (length xs) → Outcome (Err q) xs
  unfolding descent_answer descent_losses
  refused q e = (rw (checks _ e) refl, rw (checks _ e) refl)

  pub answered : (u : Unit {0}) → Ok u ≡ descent_checked v n x ss (length xs) → (d : Descended) (xs' : List ℤ) → Answered (density_at v n) (millimetres_of x) ss xs d xs' → Outcome (Ok d) xs'
  unfolding descent_answer descent_losses descent_of
  answered u e d xs' h = (ap Ok h.0 ∙ rw (checks _ e, ev, ex), h.1 ∙ rw (checks _ e, ev, ex))
