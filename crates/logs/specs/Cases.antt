-- The order of 14 and 15 by example.
use Rattle.std.specs.Prelude.{◌≡◌, refl, Err, [], ◌∷◌}
use Rattle.logs.specs.declared.LogsRefusal.TheVariants.{Unfit, NotRising}
use Rattle.logs.specs.Logs.{report_of, seconds_rise_from}

-- board 2 lacks a density, and board 1's seconds fall: 14 at board 2 comes first
pub lengths_first : (report_of (2 ∷ 1 ∷ []) (0 ∷ 0 ∷ []) (1 ∷ []) [] 0).answer ≡ Err (Unfit 2)
unfolding report_of seconds_rise_from
lengths_first = refl

-- with lengths that fit, board 1's fall comes before board 2's
pub board_1_first : (report_of (3 ∷ 4 ∷ 4 ∷ []) (0 ∷ 0 ∷ 0 ∷ []) (2 ∷ 1 ∷ []) (0 ∷ 0 ∷ []) 0).answer ≡ Err (NotRising 2)
unfolding report_of seconds_rise_from
board_1_first = refl
