-- 'Its own altitude isn't looked at': a record meets the same refusals at every altitude that is finite and in range.
use Rattle.std.specs.Prelude.{◌≡◌, refl, true, List, ℤ, Float}
use Rattle.std.specs.Float.Ieee.{le, lt, eq, of_bits}
use Rattle.numbers.specs.Literals.{0·0, 2500·0}
use Rattle.numbers.specs.Tests.{finite_of}
use Rattle.setting.specs.declared.Input.{Input}
use Rattle.setting.specs.ApHistory.{lacks_history_of}
use Rattle.acceptance.specs.Acceptance.{within_of, unfit_of, outside_of, judged_of, with_alt_of}

pub zero_finite : finite_of 0·0 ≡ true
unfolding finite_of lt eq of_bits
zero_finite = refl

pub zero_within : within_of 0·0 2500·0 0·0 ≡ true
unfolding within_of le lt eq of_bits
zero_within = refl

-- A record that is judged at altitude 0 is judged without its altitude: refused or not, every altitude that is finite and in range gives the same answer.
pub altitude_free : (w : List ℤ) (n : Input) (z : Float) → finite_of z ≡ true → within_of 0·0 2500·0 z ≡ true → judged_of w (with_alt_of n z) ≡ judged_of w (with_alt_of n 0·0)
unfolding judged_of unfit_of outside_of lacks_history_of with_alt_of
altitude_free w n z f i = rw (f, i, zero_finite, zero_within)
