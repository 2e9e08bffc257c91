-- One step of the nodes' definitions.
use mathlib.Core.Path.{◌≡◌}
use mathlib.Core.List.{List}
use Prim.Native.Nat.{ℕ, suc, ◌+◌, ◌-◌, ◌≤◌, ◌<◌}
use native.Mathlib.Omega.{arith}
use lib.ListN.{set}
use lib.Ieee.{Float}
use Rattle.numbers.specs.Arithmetic.{◌⊘◌, ◌‼◌}
use Rattle.numbers.specs.Literals.{1·0}
use Rattle.profile.specs.Gravity.{zeta_of}
use Rattle.profile.specs.Curve.{nodes_from, inverses_from}

module _ (re : Float) (zn : List Float) (n : ℕ) (z1 zgdif : Float) where
  pub nodes_more : (k : ℕ) (xs : List Float) → k < n
      → nodes_from (n - k) re zn z1 zgdif k xs ≡ nodes_from (n - (k + 1)) re zn z1 zgdif (k + 1) (set xs k (zeta_of re (zn ‼ k) z1 ⊘ zgdif))
  unfolding nodes_from
  nodes_more k xs h = let e : n - k ≡ suc (n - (k + 1)) = omega arith in rw (e)

  pub nodes_done : (k : ℕ) (xs : List Float) → n ≤ k → nodes_from (n - k) re zn z1 zgdif k xs ≡ xs
  unfolding nodes_from
  nodes_done k xs h = let e : n - k ≡ 0 = omega arith in rw (e)

module _ (tn : List Float) (n : ℕ) where
  pub inverses_more : (k : ℕ) (xs : List Float) → k < n
      → inverses_from (n - k) tn k xs ≡ inverses_from (n - (k + 1)) tn (k + 1) (set xs k (1·0 ⊘ tn ‼ k))
  unfolding inverses_from
  inverses_more k xs h = let e : n - k ≡ suc (n - (k + 1)) = omega arith in rw (e)

  pub inverses_done : (k : ℕ) (xs : List Float) → n ≤ k → inverses_from (n - k) tn k xs ≡ xs
  unfolding inverses_from
  inverses_done k xs h = let e : n - k ≡ 0 = omega arith in rw (e)
