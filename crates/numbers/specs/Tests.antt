-- Absolute value, the test for finite numbers, and what tests on NaN tell.
use Rattle.std.specs.Prelude.{◌≡◌, refl, Bool, false, cond, not, T, Float}
use Rattle.std.proofs.Common.{true≢false}
use Rattle.std.specs.Float.{nan, inf, fin}
use Rattle.std.specs.Float.Ieee.{neg, lt, eq, is_nan}
use Rattle.std.specs.Float.Ieee.Scale as scale
use Rattle.numbers.specs.Literals.{0·0}

-- |x|: below 0 its negative, +0 for either zero
unfoldable pub abs_of : Float → Float
abs_of x = cond (lt x 0·0) (neg x) (cond (eq x 0·0) 0·0 x)

-- neither NaN nor an infinity
unfoldable pub finite_of : Float → Bool
finite_of x = scale.finite x

-- a number that equals itself is no NaN
pub ordered : (x : Float) → not (eq x x) ≡ false → T (not (is_nan x))
unfolding eq is_nan
ordered nan h = absurd (true≢false h)
ordered (inf s) h = tt
ordered (fin s m e) h = tt

-- nothing is below a NaN
pub lt_nan : (x : Float) → lt x nan ≡ false
unfolding lt
lt_nan nan = refl
lt_nan (inf s) = refl
lt_nan (fin s m e) = refl
