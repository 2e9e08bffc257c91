-- gtd7d: the eleven numbers of gtd7 with d[5] summed again, and the lent row. The answer is gtd7's, `answer_of`.
use Rattle.std.specs.Prelude.{cond, List, ℤ, length, Float}
use Rattle.refusals.specs.Refusals.{accepted_of}
use Rattle.setting.specs.declared.Input.{Input}
use Rattle.setting.specs.Switches.{sw_at}
use Rattle.atmosphere.specs.Atmosphere.{eleven_of, answer_of}
use Rattle.drag_sum.specs.DragSum.{dragged_of}

-- 'the eleven numbers of gtd7, with d[5] summed again', by the main effect of switch 0
unfoldable pub drag_of : List ℤ → Input → List Float
drag_of w n = dragged_of (sw_at w 0) (eleven_of w n)

-- the lent row afterwards: these where the call is accepted, else as it was
unfoldable pub drag_after : List ℤ → Input → List Float → List Float
drag_after w n xs = cond (accepted_of (answer_of w n (length xs))) (drag_of w n) xs
