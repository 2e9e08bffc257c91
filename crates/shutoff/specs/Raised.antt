-- Two sets of coefficients that differ only in p[24], which globe7 raises.
use Rattle.std.specs.Prelude.{◌≡◌, List, ℕ, ◌<◌, Float}
use Rattle.numbers.specs.Arithmetic.{◌‼◌}

-- two sets of 150 numbers that differ only in p[24]: equal at every index but 24
abbrev pub OnlyIn24 : List Float → List Float → Type 0
OnlyIn24 p q = (k : ℕ) → k < 150 → (k ≡ 24 → ⊥) → p ‼ k ≡ q ‼ k
