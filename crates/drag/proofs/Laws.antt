-- gtd7d's outcomes, by gtd7's.
use mathlib.Core.Path.{◌≡◌}
use mathlib.Core.Bool.{true, false}
use mathlib.Core.List.{List}
use lib.IntN.{ℤ}
use lib.ListN.{length}
use lib.Ieee.{Float}
use Rattle.refusals.specs.Refusals.{accepted_of}
use Rattle.setting.specs.declared.Input.{Input}
use Rattle.setting.specs.Switches.{sw_at}
use Rattle.atmosphere.specs.Atmosphere.{answer_of, row_after}
use Rattle.drag_sum.specs.DragSum.{dragged_of}
use Rattle.drag.specs.Drag.{drag_of, drag_after}

pub kept : (w : List ℤ) (n : Input) (xs : List Float) → accepted_of (answer_of w n (length xs)) ≡ false → row_after w n xs ≡ drag_after w n xs
unfolding row_after drag_after
kept w n xs h = simp h

pub replaced : (w : List ℤ) (n : Input) (xs ys zs : List Float) (s : Float)
    → zs ≡ dragged_of s ys
    → s ≡ sw_at w 0
    → ys ≡ row_after w n xs
    → accepted_of (answer_of w n (length xs)) ≡ true
    → zs ≡ drag_after w n xs
unfolding row_after drag_after drag_of
replaced w n xs ys zs s e0 e1 e2 h = simp (e0, e1, e2, h)
