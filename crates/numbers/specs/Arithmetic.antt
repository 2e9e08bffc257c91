-- Rust's operators on f64 in Rust's levels, and the entries of lists, under short names.
use Rattle.std.specs.Prelude.{ℕ, List, [], get_or, Float}
use Rattle.std.specs.Float.{nan, binary64}
use Rattle.std.specs.Float.Ieee.{add, sub, mul, div}

infixl 60 ◌⊕◌ ◌⊖◌
infixl 70 ◌⊗◌ ◌⊘◌
infixl 90 ◌‼◌
-- x + y, rounded once
abbrev pub ◌⊕◌ : Float → Float → Float
x ⊕ y = add binary64 x y

-- x - y, rounded once
abbrev pub ◌⊖◌ : Float → Float → Float
x ⊖ y = sub binary64 x y

-- x * y, rounded once
abbrev pub ◌⊗◌ : Float → Float → Float
x ⊗ y = mul binary64 x y

-- x / y, rounded once
abbrev pub ◌⊘◌ : Float → Float → Float
x ⊘ y = div binary64 x y

-- p[i]
abbrev pub ◌‼◌ : List Float → ℕ → Float
p ‼ i = get_or p i nan

-- g[i][j]
abbrev pub at : List (List Float) → ℕ → ℕ → Float
at g i j = get_or (get_or g i []) j nan
