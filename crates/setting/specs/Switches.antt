-- The switch row: tselec of the Rust and of the C release.
use Rattle.std.specs.Prelude.{ℕ, zero, suc, ◌+◌, Bool, true, false, cond, List, eqb, ltb, ℤ, pos, negsuc, get_or, set, replicate, Float}
use Rattle.std.specs.Float.{binary64}
use Rattle.std.specs.Float.Ieee.{of_int}
use Rattle.numbers.specs.Literals.{0·0, 1·0}
use Rattle.setting.specs.declared.Flags.{Flags}

-- the value of switch i as it is given
abbrev pub given : List ℤ → ℕ → ℤ
given w i = get_or w i (pos 0)

abbrev pub is_one : ℤ → Bool
is_one (pos n) = eqb n 1
is_one (negsuc n) = false

abbrev pub above_zero : ℤ → Bool
above_zero (pos n) = ltb 0 n
above_zero (negsuc n) = false

abbrev pub on_off : Bool → Float
on_off true = 1·0
on_off false = 0·0

-- the main effect of switch i: its number for entry 9, else on only for the value 1
abbrev pub sw_at : List ℤ → ℕ → Float
sw_at w i = cond (eqb i 9) (of_int binary64 (given w i)) (on_off (is_one (given w i)))

-- the cross effect of switch i: its number for entry 9, else on for any value above 0
abbrev pub swc_at : List ℤ → ℕ → Float
swc_at w i = cond (eqb i 9) (of_int binary64 (given w i)) (on_off (above_zero (given w i)))

-- a list with the entries i, i + 1, .., n of them, set to what f gives
unfoldable pub filled : ℕ → (ℕ → Float) → ℕ → List Float → List Float
filled zero f i a = a
filled (suc n) f i a = filled n f (i + 1) (set a i (f i))

-- sw
unfoldable pub sw_of : List ℤ → List Float
sw_of w = filled 24 (sw_at w) 0 (replicate 24 0·0)

-- swc
unfoldable pub swc_of : List ℤ → List Float
swc_of w = filled 24 (swc_at w) 0 (replicate 24 0·0)

unfoldable pub flags_of : List ℤ → Flags
flags_of w = record { sw = sw_of w; swc = swc_of w }
