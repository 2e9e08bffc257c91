-- Document 02's W-201 and W-213: a prepared station, and what its slices and the lent row hold after each call.
use Rattle.std.specs.Prelude.{ℕ, cond, List, ◌++◌, ℤ, length, take, drop, Float}
use Rattle.numbers.specs.Literals.{0·0}
use Rattle.refusals.specs.Refusals.{accepted_of}
use Rattle.setting.specs.declared.Input.{Input}
use Rattle.needed_sets.specs.declared.Need.{Need}
use Rattle.setting.specs.Switches.{sw_of}
use Rattle.views.specs.View.{view_of}
use Rattle.switch_rows.specs.Rows.{same_expansions}
use Rattle.acceptance.specs.Acceptance.{judged_of, with_alt_of}
use Rattle.expansion_values.specs.ExpansionValues.{expansion_values_of}
use Rattle.plan.specs.declared.ExpansionValues.{ExpansionValues}
use Rattle.station_values.specs.StationValues.{expansion_numbers, expansion_values_in, globe7_sets, site_under}
use Rattle.stored_parts.specs.Parts.{all_parts}
use Rattle.stored.specs.Stored.{need_of, part, stored_of, row_stored}
use Rattle.drag_sum.specs.DragSum.{dragged_of}
use Rattle.station_record.specs.Record.{station_whole, record_numbers, record_in, units_in, mixing_in}
use Rattle.station_answer.specs.declared.Change.{Change}
use Rattle.station_answer.specs.declared.Change.TheVariants.{Fluxes, GLong, Lst, Move, Sec}
use Rattle.station_answer.specs.Answers.{change_of, station_answer, altitude_answer, change_answer, switches_answer}

-- what no altitude changes, out of the expansions' values
unfoldable pub held_of : List ℤ → Input → ExpansionValues → List Float
held_of w n l = stored_of all_parts (sw_of w) (site_under (sw_of w) n) l

-- the record's numbers, behind them what no altitude changes, behind that the expansions' values
unfoldable pub station_numbers : List ℤ → Input → List Float
station_numbers w n =
    let l = expansion_values_of (view_of w n) (need_of all_parts) in
    record_numbers n ++ (held_of w n l ++ expansion_numbers l)

-- the expansions' values of a record under a row in their places: globe7's eleven, and glob7s' fourteen where a asks for their sets
unfoldable pub values_put : List ℤ → Input → Need → List Float → List Float
values_put w n a xs =
    let k = expansion_numbers (expansion_values_of (view_of w n) a) in
    take 234 xs ++ cond a.nodes k (take 11 k ++ drop 245 xs)

-- the same as station_numbers, with glob7s' fourteen values as the numbers hold them
unfoldable pub sec_filled : List ℤ → Input → List Float → List Float
sec_filled w n xs =
    let k = take 11 (expansion_numbers (expansion_values_of (view_of w n) globe7_sets)) ++ drop 245 xs in
    record_numbers n ++ (held_of w n (expansion_values_in k) ++ k)

-- what no altitude changes, made anew out of the expansions' values that the numbers hold
unfoldable pub refilled_of : List ℤ → Input → List Float → List Float
refilled_of w n xs = take 14 xs ++ (held_of w n (expansion_values_in (part 234 25 xs)) ++ drop 234 xs)

-- a record's numbers, with the values of the sets a; of the others the values stay
unfoldable pub filled_of : List ℤ → Input → Need → List Float → List Float
filled_of w n a xs = refilled_of w n (record_numbers n ++ drop 14 (values_put w n a xs))

-- the slices afterwards: refused, as they were
unfoldable pub whole_after : List ℤ → Input → List ℤ → ℕ → List ℤ
whole_after w n ys count = cond (accepted_of (station_answer w n (length ys) count)) (station_whole w (with_alt_of n 0·0)) ys

unfoldable pub station_numbers_after : List ℤ → Input → ℕ → List Float → List Float
station_numbers_after w n ints xs = cond (accepted_of (station_answer w n ints (length xs))) (station_numbers w (with_alt_of n 0·0)) xs

-- the lent row afterwards
unfoldable pub altitude_row : List ℤ → List Float → Float → List Float → List Float
altitude_row whole xs alt row =
    cond (accepted_of (altitude_answer (length row) whole (length xs) alt))
    (row_stored (units_in whole) (mixing_in whole) (take 234 xs) alt) row

-- the lent row after gtd7d, whose answer is the same
unfoldable pub altitude_drag : List ℤ → List Float → Float → List Float → List Float
altitude_drag whole xs alt row =
    cond (accepted_of (altitude_answer (length row) whole (length xs) alt))
    (dragged_of (units_in whole) (row_stored (units_in whole) (mixing_in whole) (take 234 xs) alt)) row

-- the sets that a change asks for: glob7s reads no sec
abbrev pub sets_of : Change → Need
sets_of (Sec s) = globe7_sets
sets_of (Lst l) = need_of all_parts
sets_of (GLong g) = need_of all_parts
sets_of (Fluxes a f) = need_of all_parts
sets_of (Move s l g) = need_of all_parts

-- the numbers of a changed record: sec leaves glob7s' values as they are
abbrev pub refilled_by : Change → List ℤ → Input → List Float → List Float
refilled_by (Sec s) w n xs = sec_filled w n xs
refilled_by (Lst l) w n xs = station_numbers w n
refilled_by (GLong g) w n xs = station_numbers w n
refilled_by (Fluxes a f) w n xs = station_numbers w n
refilled_by (Move s l g) w n xs = station_numbers w n

-- the numbers afterwards: refused, as they were; the whole numbers stay
unfoldable pub changed_numbers : Change → List ℤ → List Float → List Float
changed_numbers c whole xs = cond (accepted_of (change_answer c whole xs)) (refilled_by c (drop 3 whole) (change_of c (record_in whole xs)) xs) xs

-- ---- a new switch row (W-213)

-- the numbers under the row w in the place of the row old: where the entries 1 to 14 have the same effects, no expansion is worked out again
unfoldable pub renewed_of : List ℤ → List ℤ → Input → List Float → List Float
renewed_of old w n xs = cond (same_expansions old w) (refilled_of w n xs) (station_numbers w n)

-- the slices afterwards: refused, as they were
unfoldable pub switched_whole : List ℤ → List ℤ → List Float → List ℤ
switched_whole w whole xs = cond (accepted_of (switches_answer w whole xs)) (station_whole w (record_in whole xs)) whole

unfoldable pub switched_numbers : List ℤ → List ℤ → List Float → List Float
switched_numbers w whole xs = cond (accepted_of (switches_answer w whole xs)) (renewed_of (drop 3 whole) w (record_in whole xs) xs) xs
