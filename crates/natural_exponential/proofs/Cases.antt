-- Which case of exp's definition each test leads to. Assumes nothing.
use mathlib.Core.Path.{◌≡◌, refl, sym, ap, subst}
use mathlib.Core.Bool.{true, false}
use lib.Dec.{T}
use lib.Ieee.{Float, nan, inf, fin, lt, is_nan}
use Rattle.fixed_point.specs.Fixed.{scaled_of}
use Rattle.natural_exponential.specs.Exp.{exp_reduced, inside_of, most, least, exp_of}
use Rattle.fixed_point.specs.Float.{over, minus_sign, nought}

pub exp_nan : (x : Float) → x ≡ nan → exp_of x ≡ nan
unfolding exp_of is_nan
exp_nan x e = ap exp_of e

-- what is below -745 is not above 709
pub least_most : (x : Float) → lt x least ≡ true → lt most x ≡ false
unfolding lt
least_most nan h = refl
least_most (inf true) h = refl
least_most (inf false) h = sym h
least_most (fin true m e) h = refl
least_most (fin false m e) h = absurd (subst T (sym h) tt)

module _ (x : Float) (n : is_nan x ≡ false) where
  pub exp_most : lt most x ≡ true → exp_of x ≡ inf false
  unfolding exp_of
  exp_most a = simp (n, a)

  module _ (a : lt most x ≡ false) where
    pub exp_least : lt x least ≡ true → exp_of x ≡ nought
    unfolding exp_of
    exp_least b = simp (n, a, b)

    module _ (b : lt x least ≡ false) where
      pub exp_reduced_lem : over 1 x ≡ true → exp_of x ≡ exp_reduced (minus_sign x) (scaled_of 53 x)
      unfolding exp_of
      exp_reduced_lem c = simp (n, a, b, c)

      pub exp_inside : over 1 x ≡ false → exp_of x ≡ inside_of (minus_sign x) (scaled_of 58 x)
      unfolding exp_of
      exp_inside c = simp (n, a, b, c)
