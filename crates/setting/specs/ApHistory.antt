-- Refusal 1 of document 01: switch 9 is -1 and the array is absent.
use Rattle.std.specs.Prelude.{Bool, true, false, ◌&&◌, List, eqb, ℤ, pos, negsuc}
use Rattle.setting.specs.declared.History.{History}
use Rattle.setting.specs.declared.History.TheVariants.{Absent, Present}
use Rattle.setting.specs.declared.Input.{Input}
use Rattle.setting.specs.Switches.{given}

abbrev pub is_minus_one : ℤ → Bool
is_minus_one (pos n) = false
is_minus_one (negsuc n) = eqb n 0

-- switch 9 is -1
unfoldable pub asks_history_of : List ℤ → Bool
asks_history_of w = is_minus_one (given w 9)

abbrev pub absent_of : History → Bool
absent_of Absent = true
absent_of Present = false

unfoldable pub lacks_history_of : List ℤ → Input → Bool
lacks_history_of w n = asks_history_of w && absent_of n.history
