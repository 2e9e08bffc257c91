-- The cases of the square root's definition. Assumes nothing.
use mathlib.Core.Path.{◌≡◌, ap}
use mathlib.Core.Bool.{true, false}
use lib.Ieee.{Float, nan, inf, binary64, mul, lt, eq, is_nan}
use Rattle.fixed_point.specs.Float.{nought, tiny, lift}
use Rattle.square_root.specs.Root.{root_of, sqrt_of}

pub sqrt_nan : (x : Float) → x ≡ nan → sqrt_of x ≡ nan
unfolding sqrt_of is_nan
sqrt_nan x e = ap sqrt_of e

module _ (x : Float) (n : is_nan x ≡ false) where
  pub sqrt_negative : lt x nought ≡ true → sqrt_of x ≡ nan
  unfolding sqrt_of
  sqrt_negative a = simp (n, a)

  module _ (a : lt x nought ≡ false) where
    pub sqrt_zero : eq x nought ≡ true → sqrt_of x ≡ x
    unfolding sqrt_of
    sqrt_zero b = simp (n, a, b)

    module _ (b : eq x nought ≡ false) where
      pub sqrt_infinite : eq x (inf false) ≡ true → sqrt_of x ≡ x
      unfolding sqrt_of
      sqrt_infinite c = simp (n, a, b, c)

      module _ (c : eq x (inf false) ≡ false) where
        pub sqrt_tiny : lt x tiny ≡ true → sqrt_of x ≡ root_of (mul binary64 x lift) 27
        unfolding sqrt_of
        sqrt_tiny d = simp (n, a, b, c, d)

        pub sqrt_normal : lt x tiny ≡ false → sqrt_of x ≡ root_of x 0
        unfolding sqrt_of
        sqrt_normal d = simp (n, a, b, c, d)
