-- The turns of the loop that fills the two rows, and its end.
use Prim.Native.Nat.{ℕ, suc, ◌+◌, ◌-◌, ◌<◌, ◌≤◌}
use mathlib.Core.Path.{◌≡◌}
use mathlib.Core.List.{List}
use native.Mathlib.Omega.{arith}
use lib.IntN.{ℤ}
use lib.ListN.{set, replicate}
use lib.Ieee.{Float, binary64, of_int}
use Rattle.numbers.specs.Literals.{0·0}
use Rattle.setting.specs.Switches.{given, is_one, above_zero, on_off, filled, sw_of, swc_of, flags_of}
use Rattle.setting.specs.declared.Flags.{Flags}

pub filled_more : (n : ℕ) (f : ℕ → Float) (i : ℕ) (a : List Float) → i < n → filled (n - (i + 1)) f (i + 1) (set a i (f i)) ≡ filled (n - i) f i a
unfolding filled
filled_more n f i a h = let e : n - i ≡ suc (n - (i + 1)) = omega arith in rw e

pub filled_done : (n : ℕ) (f : ℕ → Float) (i : ℕ) (a : List Float) → n ≤ i → filled (n - i) f i a ≡ a
unfolding filled
filled_done n f i a h = let e : n - i ≡ 0 = omega arith in rw e

-- the rows of main and cross effects before entry 9 is written
abbrev pub main_at : List ℤ → ℕ → Float
main_at w i = on_off (is_one (given w i))

abbrev pub cross_at : List ℤ → ℕ → Float
cross_at w i = on_off (above_zero (given w i))

abbrev pub zeros : List Float
zeros = replicate 24 0·0

pub flags_of_lem : (w : List ℤ) (a b : List Float) (x : Float) → a ≡ filled 24 (main_at w) 0 zeros → b ≡ filled 24 (cross_at w) 0 zeros → x ≡ of_int binary64 (given w 9)
    → ◌≡◌ {A = Flags} (record { sw = set a 9 x; swc = set b 9 x }) (flags_of w)
unfolding flags_of sw_of swc_of filled
flags_of_lem w a b x e f n = rw (e, f, n)
