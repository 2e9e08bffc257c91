-- The first row, altitude by altitude.
use Prim.Native.Nat.{ℕ, suc, ◌+◌}
use mathlib.Core.Path.{◌≡◌}
use mathlib.Core.Bool.{true, false}
use mathlib.Core.List.{List}
use lib.Ieee.{Float}
use Rattle.first_below_list.specs.FirstBelowList.{is_below, row_in, first_from, At}

module _ (level : Float) (rows : List Float) (m k : ℕ) where
  pub hit : is_below level (row_in rows k) ≡ true → first_from level rows (suc m) k ≡ At k
  unfolding first_from
  hit t = rw t

  pub miss : is_below level (row_in rows k) ≡ false → first_from level rows (suc m) k ≡ first_from level rows m (k + 1)
  unfolding first_from
  miss t = rw t
