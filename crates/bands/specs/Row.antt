-- The row that demand 3 speaks of in bands.
use Rattle.std.specs.Prelude.{Option, None, Some, List, ℤ, pos, replicate}

-- the switches of a metre's row; where it has none, 24 zeros
abbrev pub switches_in : Option (List ℤ) → List ℤ
switches_in None = replicate 24 (pos 0)
switches_in (Some w) = w
