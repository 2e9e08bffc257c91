-- The record of a prepared station in its two slices (document 02, W-201, W-213).
use Rattle.std.specs.Prelude.{cond, List, [], ◌∷◌, ℤ, pos, get_or, Float}
use Rattle.numbers.specs.Arithmetic.{◌‼◌}
use Rattle.numbers.specs.Literals.{0·0}
use Rattle.setting.specs.declared.Input.{Input}
use Rattle.setting.specs.declared.History.{History}
use Rattle.setting.specs.declared.History.TheVariants.{Absent, Present}
use Rattle.setting.specs.ApHistory.{absent_of}
use Rattle.setting.specs.Switches.{is_one, on_off}

-- ---- what the two slices hold: 27 whole numbers and 259 numbers, the record's fourteen first

-- 1 where the history is there
unfoldable pub mark_of : History → ℤ
mark_of h = cond (absent_of h) (pos 0) (pos 1)

unfoldable pub history_in : ℤ → History
history_in m = cond (is_one m) Present Absent

-- year, doy, the mark of the history, the switches
unfoldable pub station_whole : List ℤ → Input → List ℤ
station_whole w n = n.year ∷ n.doy ∷ mark_of n.history ∷ w

-- the record's numbers but its altitude
unfoldable pub record_numbers : Input → List Float
record_numbers n =
    n.sec ∷ n.g_lat ∷ n.g_long ∷ n.lst ∷ n.f107a ∷ n.f107 ∷ n.ap ∷
    (n.ap_array ‼ 0) ∷ (n.ap_array ‼ 1) ∷ (n.ap_array ‼ 2) ∷ (n.ap_array ‼ 3) ∷ (n.ap_array ‼ 4) ∷ (n.ap_array ‼ 5) ∷ (n.ap_array ‼ 6) ∷ []

-- the record that the slices hold, at altitude 0
unfoldable pub record_in : List ℤ → List Float → Input
record_in whole xs =
    record {
      year = get_or whole 0 (pos 0);
      doy = get_or whole 1 (pos 0);
      sec = xs ‼ 0;
      alt = 0·0;
      g_lat = xs ‼ 1;
      g_long = xs ‼ 2;
      lst = xs ‼ 3;
      f107a = xs ‼ 4;
      f107 = xs ‼ 5;
      ap = xs ‼ 6;
      history = history_in (get_or whole 2 (pos 0));
      ap_array = (xs ‼ 7) ∷ (xs ‼ 8) ∷ (xs ‼ 9) ∷ (xs ‼ 10) ∷ (xs ‼ 11) ∷ (xs ‼ 12) ∷ (xs ‼ 13) ∷ [];
    }

-- the main effects of switches 0 and 15, which stand at 3 and at 18
abbrev pub units_in : List ℤ → Float
units_in whole = on_off (is_one (get_or whole 3 (pos 0)))

abbrev pub mixing_in : List ℤ → Float
mixing_in whole = on_off (is_one (get_or whole 18 (pos 0)))
