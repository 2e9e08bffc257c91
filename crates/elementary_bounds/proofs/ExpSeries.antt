-- exp's two tables against its power series: computed tests over the tables, and what they say of every argument. Assumes nothing.
use mathlib.Core.Path.{◌≡◌, refl}
use mathlib.Core.List.{List, [], ◌∷◌}
use Prim.Native.Nat.{ℕ, ◌*◌, ◌^◌, ◌≤◌, ◌<◌}
use lib.ListN.{get_or}
use lib.Dec.{T}
use Rattle.exponential_tables.specs.Tables.{coarse, fine}
use Rattle.elementary_bounds.specs.Series.{homogeneous, factors}
use Rattle.elementary_bounds.proofs.Nearness.{whole}
use Rattle.elementary_bounds.proofs.Series.{shift, fitting, fitted, Close}

abbrev pub series : List ℕ
series = homogeneous (2 ^ 58) factors

-- the same series about -1: at t for -1 + t / D. Made by scripts/elementary/generate.py.
abbrev pub lower : List ℕ
lower = homogeneous (2 ^ 58) (895014631192902121 ∷ 895014631192902120 ∷ 447507315596451070 ∷ 149169105198816960 ∷ 37292276299704525 ∷ 7458455259939936 ∷ 1243075876659240 ∷ 177582268088640 ∷ 22197783520770 ∷ 2466420377200 ∷ 246642054516 ∷ 22421988160 ∷ 1868513010 ∷ 143722080 ∷ 10271400 ∷ 682176 ∷ 43605 ∷ 2280 ∷ 190 ∷ 0 ∷ 1 ∷ [])

-- the series through the 4th power
abbrev pub short : List ℕ
short = 2432902008176640000 * (2 ^ 58) ^ 20 ∷ 2432902008176640000 * (2 ^ 58) ^ 19 ∷ 1216451004088320000 * (2 ^ 58) ^ 18 ∷ 405483668029440000 * (2 ^ 58) ^ 17 ∷ 101370917007360000 * (2 ^ 58) ^ 16 ∷ []

pub lower_is : shift (2 ^ 58) lower ≡ series
lower_is = refl

coarse_test : T (fitting lower series (2 ^ 60) (2 ^ 53) (2 * whole) 0 coarse)
unfolding coarse
coarse_test = tt

fine_test : T (fitting series short (2 ^ 62) (2 ^ 48) (64 * whole) 0 fine)
unfolding fine
fine_test = tt

pub coarse_close : (i : ℕ) → i < 65 → (u : ℕ) → u ≤ 2 ^ 53 → Close lower series (2 ^ 60) (2 * whole) (i * 2 ^ 53) (get_or coarse i 0) u
unfolding coarse
coarse_close i h u l = fitted lower series (2 ^ 60) (2 ^ 53) (2 * whole) coarse coarse_test i h u l

pub fine_close : (i : ℕ) → i < 32 → (u : ℕ) → u ≤ 2 ^ 48 → Close series short (2 ^ 62) (64 * whole) (i * 2 ^ 48) (get_or fine i 0) u
unfolding fine
fine_close i h u l = fitted series short (2 ^ 62) (2 ^ 48) (64 * whole) fine fine_test i h u l
