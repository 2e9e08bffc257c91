-- Whole millimetres from 200 to 1,000 km are altitudes that the one-altitude call takes; 10, for altitudes below 72.5 km, cannot occur there.
use Rattle.std.specs.Prelude.{ℕ, ◌*◌, ◌^◌, ◌<◌, ◌≤◌, ◌≡◌, Bool, ◌&&◌, ◌||◌, T, eqb, ltb, Float}
use Rattle.std.proofs.Math.Path.{refl}
use Rattle.std.proofs.Common.{sym, subst, true≢false, arith, le-ltb, eqb→eq, ltb→lt}
use Rattle.std.proofs.Math.Bool.{true, false}
use Rattle.std.specs.Float.{nan, inf, fin}
use Rattle.std.specs.Float.Ieee.{binary64, up, down, round, div, lt, le, eq, of_bits, of_int}
use Rattle.std.specs.Float.Ieee.Back.{round_whole}
use Rattle.std.specs.Float.Ieee.Exact.{HasValue}
use Rattle.std.specs.Float.Ieee.Fits.{down_pos, and_l, and_r}
use Rattle.std.specs.Float.Ieee.Order.{round_mono}
use Rattle.std.specs.Float.Ieee.Scale.{round_same}
use Rattle.numbers.specs.Arithmetic.{◌⊘◌}
use Rattle.numbers.specs.Literals.{dec, 0·0, 72·5, 2500·0, 1·0E6, is-0·0, is-72·5, is-2500·0}
use Rattle.numbers.specs.Tests.{finite_of}
use Rattle.acceptance.specs.Acceptance.{within_of, unmixed_of}
use Rattle.descent_orbits.specs.DescentOrbits.{lowest_altitude, highest_altitude, kilometres_of_millimetres}

-- ---- the division, rounded once

over_million : (x : Float) (a : ℕ) → HasValue x false a 1 → x ⊘ 1·0E6 ≡ round binary64 false a 1000000
unfolding div of_bits
over_million nan a h = absurd h
over_million (inf s) a h = absurd h
over_million (fin true m e) a h = absurd (true≢false h.0)
over_million (fin false m e) a h =
    round_same binary64 false (m * up e * 1) (15625 * 2 ^ 6 * down e) a 1000000 (some (down e) (down_pos e)) (omega arith) (by (m * up e) (down e) h.1)
  where
    some : (d : ℕ) → 0 < d → 0 < 15625 * 2 ^ 6 * d
    some d p = omega arith

    by : (n d : ℕ) → n * 1 ≡ a * d → n * 1 * 1000000 ≡ a * (15625 * 2 ^ 6 * d)
    by n d g = omega arith

pub kilometres_round : (a : ℕ) → a ≤ highest_altitude → kilometres_of_millimetres a ≡ round binary64 false a 1000000
unfolding kilometres_of_millimetres of_int
kilometres_round a h = over_million (round binary64 false a 1) a (round_whole binary64 false a (omega arith))

-- ---- tests

is_true : (b : Bool) → T b → b ≡ true
is_true true t = refl
is_true false t = absurd t

both_there : (a b : Bool) → T a → T b → (a && b) ≡ true
both_there a b s t = rw (is_true a s, is_true b t)

-- what lies from 0 to 2500 is finite
finite_between : (x : Float) → T (le 0·0 x) → T (le x 2500·0) → finite_of x ≡ true
unfolding le lt eq of_bits finite_of
finite_between nan l h = absurd h
finite_between (inf true) l h = absurd l
finite_between (inf false) l h = absurd h
finite_between (fin s m e) l h = refl

-- what is at least 72.5 is not below it
not_under : (x : Float) → T (le 72·5 x) → lt x 72·5 ≡ false
unfolding le lt eq of_bits
not_under nan h = refl
not_under (inf true) h = absurd h
not_under (inf false) h = refl
not_under (fin true m e) h =
    absurd (no (down e) (down_pos e) (eqb→eq (145 * 1 * down e) 0 (and_r (eqb (145 * 1 * down e) (m * up e * 2)) (eqb (145 * 1 * down e) 0) h)))
  where
    no : (d : ℕ) → 0 < d → 145 * 1 * d ≡ 0 → ⊥
    no d p e = omega arith
not_under (fin false m e) h = go (ltb (145 * 1 * down e) (m * up e * 2)) refl h
  where
    go : (b : Bool) → ltb (145 * 1 * down e) (m * up e * 2) ≡ b → T (b || (eqb (145 * 1 * down e) (m * up e * 2) && true)) → ltb (m * up e * 2) (145 * 1 * down e) ≡ false
    go true f t = le-ltb (m * up e * 2) (145 * 1 * down e) (omega (arith, ltb→lt (145 * 1 * down e) (m * up e * 2) (subst T (sym f) tt)))
    go false f t = le-ltb (m * up e * 2) (145 * 1 * down e) (omega (arith, eqb→eq (145 * 1 * down e) (m * up e * 2) (and_l (eqb (145 * 1 * down e) (m * up e * 2)) true t)))

-- ---- a descent's altitudes

module _ (a : ℕ) (l : lowest_altitude ≤ a) (h : a ≤ highest_altitude) where
  not_negative : T (le 0·0 (kilometres_of_millimetres a))
  unfolding dec
  not_negative = rw (kilometres_round a h, is-0·0) (round_mono binary64 0 1 a 1000000 (omega arith) (omega arith) (omega arith))

  under_2500 : T (le (kilometres_of_millimetres a) 2500·0)
  unfolding dec
  under_2500 = rw (kilometres_round a h, is-2500·0) (round_mono binary64 a 1000000 2500 1 (omega arith) (omega arith) (omega arith))

  over_72 : T (le 72·5 (kilometres_of_millimetres a))
  unfolding dec
  over_72 = rw (kilometres_round a h, is-72·5) (round_mono binary64 725 10 a 1000000 (omega arith) (omega arith) (omega arith))

  pub km_finite : finite_of (kilometres_of_millimetres a) ≡ true
  km_finite = finite_between (kilometres_of_millimetres a) not_negative under_2500

  pub km_within : within_of 0·0 2500·0 (kilometres_of_millimetres a) ≡ true
  unfolding within_of
  km_within = both_there (le 0·0 (kilometres_of_millimetres a)) (le (kilometres_of_millimetres a) 2500·0) not_negative under_2500

  pub km_mixed : (one : Bool) → unmixed_of one (kilometres_of_millimetres a) ≡ false
  unfolding unmixed_of
  km_mixed true = refl
  km_mixed false = not_under (kilometres_of_millimetres a) over_72
