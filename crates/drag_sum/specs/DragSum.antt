-- gtd7d's d[5], with document 02's words beside it; the order is that of the Rust's gtd7d.
use Rattle.std.specs.Prelude.{cond, List, set, Float}
use Rattle.std.specs.Float.Ieee.{ne}
use Rattle.numbers.specs.Arithmetic.{◌⊕◌, ◌⊗◌, ◌⊘◌, ◌‼◌}
use Rattle.numbers.specs.Literals.{0·0, 1·66E-24, 4·0, 14·0, 16·0, 28·0, 32·0, 40·0, 1000·0}

-- 'summed again over the seven species and 16 × d[8], 1.66E-24 in front'
abbrev pub drag_sum_of : List Float → Float
drag_sum_of d =
    1·66E-24 ⊗ (4·0 ⊗ d ‼ 0 ⊕ 16·0 ⊗ d ‼ 1 ⊕ 28·0 ⊗ d ‼ 2 ⊕ 32·0 ⊗ d ‼ 3 ⊕ 40·0 ⊗ d ‼ 4 ⊕ d ‼ 6 ⊕ 14·0 ⊗ d ‼ 7 ⊕ 16·0 ⊗ d ‼ 8)

-- 'divided by 1000 when switch 0 is 1': sw0 is then 1, else 0
unfoldable pub drag_mass_of : Float → List Float → Float
drag_mass_of sw0 d = cond (ne sw0 0·0) (drag_sum_of d ⊘ 1000·0) (drag_sum_of d)

-- 'the eleven numbers of gtd7, with d[5]' so summed
unfoldable pub dragged_of : Float → List Float → List Float
dragged_of sw0 d = set d 5 (drag_mass_of sw0 d)
