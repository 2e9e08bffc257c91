-- The tables of sin and cos against their power series: computed tests over the tables, and what they say of every argument. Assumes nothing.
use mathlib.Core.List.{List, [], ◌∷◌}
use Prim.Native.Nat.{ℕ, ◌+◌, ◌*◌, ◌^◌, ◌≤◌, ◌<◌}
use lib.ListN.{get_or}
use lib.Dec.{T}
use Rattle.elementary_bounds.specs.Series.{homogeneous, sin_adding, sin_taking, cos_adding, cos_taking}
use Rattle.circular_tables.specs.Tables.{sines, cosines}
use Rattle.elementary_bounds.proofs.Series.{fitting_pairs, fitted_pairs, ClosePair}
use Rattle.elementary_bounds.proofs.Nearness.{whole, slice}

-- 20! / k! * D ^ (20 - k) for k from 2 to 4
abbrev pub second : ℕ
second = 1216451004088320000 * (2 ^ 58) ^ 18

abbrev pub third : ℕ
third = 405483668029440000 * (2 ^ 58) ^ 17

abbrev pub fourth : ℕ
fourth = 101370917007360000 * (2 ^ 58) ^ 16

-- with a for the sine of the centre and b for the cosine, and d beyond it: the sine is a (1 + d ^ 4 / 24) + b d less a d ^ 2 / 2 + b d ^ 3 / 6,
-- and the cosine b (1 + d ^ 4 / 24) + a d ^ 3 / 6 less a d + b d ^ 2 / 2
abbrev pub sine_adds : ℕ → ℕ → List ℕ
sine_adds a b = a * whole ∷ b * slice ∷ 0 ∷ 0 ∷ a * fourth ∷ []

abbrev pub sine_takes : ℕ → ℕ → List ℕ
sine_takes a b = 0 ∷ 0 ∷ a * second ∷ b * third ∷ []

abbrev pub cosine_adds : ℕ → ℕ → List ℕ
cosine_adds a b = b * whole ∷ 0 ∷ 0 ∷ a * third ∷ b * fourth ∷ []

abbrev pub cosine_takes : ℕ → ℕ → List ℕ
cosine_takes a b = 0 ∷ a * slice ∷ b * second ∷ []

sine_test : T (fitting_pairs (homogeneous (2 ^ 58) sin_adding) (homogeneous (2 ^ 58) sin_taking) sine_adds sine_takes (2 ^ 58) (2 ^ 50) (2200 * whole) 0 sines cosines)
unfolding sines cosines
sine_test = tt

cosine_test : T (fitting_pairs (homogeneous (2 ^ 58) cos_adding) (homogeneous (2 ^ 58) cos_taking) cosine_adds cosine_takes (2 ^ 58) (2 ^ 50) (2200 * whole) 0 sines cosines)
unfolding sines cosines
cosine_test = tt

pub sine_fits : (i : ℕ) → i < 257 → (u : ℕ) → u ≤ 2 ^ 50
    → ClosePair (homogeneous (2 ^ 58) sin_adding) (homogeneous (2 ^ 58) sin_taking) (sine_adds (get_or sines i 0) (get_or cosines i 0)) (sine_takes (get_or sines i 0) (get_or cosines i 0)) (2 ^ 58) (2200 * whole) ((0 + i) * 2 ^ 50) u
unfolding sines cosines
sine_fits i h u l = fitted_pairs (homogeneous (2 ^ 58) sin_adding) (homogeneous (2 ^ 58) sin_taking) sine_adds sine_takes (2 ^ 58) (2 ^ 50) (2200 * whole) 0 sines cosines sine_test i h h u l

pub cosine_fits : (i : ℕ) → i < 257 → (u : ℕ) → u ≤ 2 ^ 50
    → ClosePair (homogeneous (2 ^ 58) cos_adding) (homogeneous (2 ^ 58) cos_taking) (cosine_adds (get_or sines i 0) (get_or cosines i 0)) (cosine_takes (get_or sines i 0) (get_or cosines i 0)) (2 ^ 58) (2200 * whole) ((0 + i) * 2 ^ 50) u
unfolding sines cosines
cosine_fits i h u l = fitted_pairs (homogeneous (2 ^ 58) cos_adding) (homogeneous (2 ^ 58) cos_taking) cosine_adds cosine_takes (2 ^ 58) (2 ^ 50) (2200 * whole) 0 sines cosines cosine_test i h h u l
