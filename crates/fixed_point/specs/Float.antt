-- Sizes of floats and a few constants, as contracts and theorems say them.
use Rattle.std.specs.Prelude.{ℕ, ◌*◌, ◌≤◌, Bool, true, false, ltb, pos, negsuc, Float}
use Rattle.std.specs.Float.{nan, inf, fin}
use Rattle.std.specs.Float.Ieee.{up, down}

-- x is finite, and at most Q in size
abbrev pub Within : Float → ℕ → Type 0
Within nan Q = ⊥
Within (inf s) Q = ⊥
Within (fin s m e) Q = m * up e ≤ Q * down e

-- a Bool as a number
abbrev pub digit : Bool → ℕ
digit true = 1
digit false = 0

-- whether x is above Q in size; an infinity and a NaN are
abbrev pub over : ℕ → Float → Bool
over Q nan = true
over Q (inf s) = true
over Q (fin s m e) = ltb (Q * down e) (m * up e)

-- 1 for a minus sign, that of -0 too, and 0 for a plus sign
abbrev pub minus_sign : Float → ℕ
minus_sign nan = 0
minus_sign (inf s) = digit s
minus_sign (fin s m e) = digit s

-- 1, -1, 0, 2 ^ -1022 and 2 ^ 54
abbrev pub unit : Float
unit = fin false 1 (pos 0)

abbrev pub minus_one : Float
minus_one = fin true 1 (pos 0)

abbrev pub nought : Float
nought = fin false 0 (pos 0)

abbrev pub tiny : Float
tiny = fin false 1 (negsuc 1021)

abbrev pub lift : Float
lift = fin false 1 (pos 54)
