-- `column_answer` meets its contract.
use mathlib.Core.Path.{ap, ◌∙◌}
use Rattle.std.specs.Prelude.{Err}
use Rattle.altitudes.proofs.Laws.{too_many, too_short, room_enough}
use Rattle.altitudes.proofs.column_answer.Goals as goal

pub returns-then-count-gt512 : goal.returns-then-count-gt512
returns-then-count-gt512 c =
    ap Err c.at.ensures ∙ (too_many _ _ _ _ c.if-count-gt512.true)

pub returns-then-len-room : goal.returns-then-len-room
returns-then-len-room c =
    ap Err c.at-then-len-room.ensures ∙ (too_short _ _ _ _ c.if-count-gt512.false c.if-len-room.true)

pub returns : goal.returns
returns c = room_enough _ _ _ _ c.if-count-gt512.false c.if-len-room.false _ c.judge_all.ensures
