-- The bytes of the line program's answers, in ASCII.
use Rattle.std.specs.Prelude.{ℕ, zero, suc, ◌+◌, ◌/◌, ◌%◌, ◌≡◌, cond, List, [], ◌∷◌, ◌++◌, ltb, length, take, drop, Float}
use Rattle.std.specs.Float.{binary64}
use Rattle.std.specs.Float.Ieee.{is_nan, to_bits}

-- the bytes b with the bytes t from at on
unfoldable pub written : List ℕ → ℕ → List ℕ → List ℕ
written b at t = take at b ++ t ++ drop (at + length t) b

-- a buffer b became c, which has t from at on and is b elsewhere; r is the index after t
abbrev pub Writes : List ℕ → ℕ → List ℕ → List ℕ → ℕ → Type 0
Writes b at t c r = (c ≡ written b at t) × (r ≡ at + length t)

-- the bits of a number; any NaN has those of 7ff8000000000000
unfoldable pub pattern_of : Float → ℕ
pattern_of x = cond (is_nan x) 0x7ff8_0000_0000_0000 (to_bits binary64 x)

-- a hexadecimal digit: 0 to 9 and a to f
abbrev pub hex_digit : ℕ → ℕ
hex_digit d = cond (ltb d 10) (48 + d) (87 + d)

-- the last k hexadecimal digits of n
unfoldable pub hex_in : ℕ → ℕ → List ℕ
hex_in zero n = []
hex_in (suc k) n = hex_in k (n / 16) ++ (hex_digit (n % 16) ∷ [])

-- 16 lower-case hexadecimal digits of the bits
unfoldable pub hex_text : Float → List ℕ
hex_text x = hex_in 16 (pattern_of x)

-- the decimal digits of n: below ten its own, else those of n / 10 and then the last one; m bounds the recursion, and n is enough for n
unfoldable pub decimal_in : ℕ → ℕ → List ℕ
decimal_in zero n = (48 + n) ∷ []
decimal_in (suc m) n = cond (ltb n 10) ((48 + n) ∷ []) (decimal_in m (n / 10) ++ ((48 + n % 10) ∷ []))

-- a number in decimal digits without leading zeros
unfoldable pub decimal_text : ℕ → List ℕ
decimal_text n = decimal_in n n

-- (value H)
unfoldable pub value_text : Float → List ℕ
value_text x =
    -- "(value "
    (40 ∷ 118 ∷ 97 ∷ 108 ∷ 117 ∷ 101 ∷ 32 ∷ [])
    ++ hex_text x
    -- ")\n"
    ++ (41 ∷ 10 ∷ [])

-- each number after a space
unfoldable pub spaced_text : List Float → List ℕ
spaced_text [] = []
spaced_text (x ∷ xs) = (32 ∷ []) ++ hex_text x ++ spaced_text xs

-- (row H .. H)
unfoldable pub row_text : List Float → List ℕ
row_text xs =
    -- "(row"
    (40 ∷ 114 ∷ 111 ∷ 119 ∷ [])
    ++ spaced_text xs
    -- ")\n"
    ++ (41 ∷ 10 ∷ [])

-- (refused N P)
unfoldable pub refused_text : ℕ → ℕ → List ℕ
refused_text n p =
    -- "(refused "
    (40 ∷ 114 ∷ 101 ∷ 102 ∷ 117 ∷ 115 ∷ 101 ∷ 100 ∷ 32 ∷ [])
    ++ decimal_text n
    ++ (32 ∷ [])
    ++ decimal_text p
    -- ")\n"
    ++ (41 ∷ 10 ∷ [])
