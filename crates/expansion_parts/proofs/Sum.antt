-- The weighted sum, its weights their own size.
use mathlib.Core.Path.{◌≡◌}
use mathlib.Core.List.{List}
use lib.Ieee.{Float}
use Rattle.numbers.specs.Arithmetic.{◌⊕◌, ◌⊗◌, ◌‼◌}
use Rattle.numbers.specs.Tests.{abs_of}
use Rattle.views.specs.Shared.{OwnSize}
use Rattle.expansion_parts.specs.ExpansionParts.{weighted_from, weighted_of}

pub weighted_law : (first : Float) (sw t : List Float) (nine : Float) → OwnSize sw → nine ≡ abs_of (sw ‼ 9)
    → first ⊕ sw ‼ 1 ⊗ t ‼ 0 ⊕ sw ‼ 2 ⊗ t ‼ 1 ⊕ sw ‼ 3 ⊗ t ‼ 2 ⊕ sw ‼ 4 ⊗ t ‼ 3 ⊕ sw ‼ 5 ⊗ t ‼ 4
    ⊕ sw ‼ 6 ⊗ t ‼ 5 ⊕ sw ‼ 7 ⊗ t ‼ 6 ⊕ sw ‼ 8 ⊗ t ‼ 7 ⊕ nine ⊗ t ‼ 8 ⊕ sw ‼ 10 ⊗ t ‼ 9
    ⊕ sw ‼ 11 ⊗ t ‼ 10 ⊕ sw ‼ 12 ⊗ t ‼ 11 ⊕ sw ‼ 13 ⊗ t ‼ 12 ⊕ sw ‼ 14 ⊗ t ‼ 13 ≡ weighted_of first sw t
unfolding weighted_of weighted_from
weighted_law first sw t nine s e =
    rw (s.0, s.1, s.2, s.3, s.4, s.5, s.6, s.7, s.8, s.9, s.10, s.11, s.12, e)
