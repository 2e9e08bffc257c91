-- log at 2, and its value where it is at most 1 in size. Assumes nothing.
use mathlib.Core.Path.{◌≡◌, refl, ap}
use mathlib.Core.Bool.{false}
use Prim.Native.Nat.{ℕ, ◌*◌, ◌^◌, ◌<◌}
use native.Mathlib.Omega.{arith}
use native.Mathlib.Nat.{lt_of_lt_of_le}
use lib.Dec.{leb→le, lit≤}
use lib.IntN.{pos}
use lib.Pow.{pow_pos, pow_mono, shl_lt}
use lib.Ieee.{fin, binary64, to_bits, lt, eq, is_nan}
use lib.Ieee.Exact.{HasValue, round_exact}
use Rattle.elementary_bounds.specs.Series.{NearLog}
use Rattle.logarithm_tables.specs.Tables.{reciprocals, logarithms}
use Rattle.natural_logarithm.specs.Log.{fraction_of, difference_of, log_of}

-- at 2, where z is 1 / 3
pub log_two : log_of (fin false 1 (pos 1)) ≡ difference_of 15250514022906408 (2 ^ 53)
unfolding log_of is_nan lt eq to_bits reciprocals logarithms
log_two = refl

pub log_two_near : NearLog 15250514022906408 (2 ^ 53) 1 3
log_two_near = record { above = leb→le _ _ tt; under = leb→le _ _ tt }

-- ---- the value, exact where the difference is below 1

pub fraction_value : (d : ℕ) → d < 2 ^ 53 → HasValue (fraction_of d) false d (2 ^ 53)
fraction_value d h = round_exact binary64 false d (2 ^ 53) d 1021 (pow_pos 53) h (lt_of_lt_of_le (shl_lt 53 1021 h) (pow_mono {i = 1074} {j = 2098} (lit≤ {m = 1074} {n = 2098} tt))) (across d (2 ^ 1074) (2 ^ 1021) (2 ^ 53) refl)
  where
    across : (q a b c : ℕ) → a ≡ b * c → q * a ≡ q * b * c
    across q a b c e = omega (arith, ap (λ (z : ℕ). q * z) e)
