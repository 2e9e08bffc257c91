-- The sets' values in the order in which they are worked out, and what State carries before each set.
use Rattle.std.specs.Prelude.{cond, List, ℕ, ◌+◌, ◌*◌, eqb, ltb, replicate, ℤ, Float}
use Rattle.numbers.specs.Literals.{0·0}
use Rattle.numbers.specs.Arithmetic.{◌‼◌}
use Rattle.setting.specs.declared.Input.{Input}
use Rattle.setting.specs.declared.View.{View}
use Rattle.views.specs.View.{view_of}
use Rattle.setting.specs.Switches.{filled}
use Rattle.tables.specs.Tables.{pd_t3, pd_t7, pd_t8}
use Rattle.expansion.specs.declared.Carried.{Carried}
use Rattle.expansion.specs.Expansion.{globe7_given, glob7s_from, glob7s_from_given}
use Rattle.needed_sets.specs.declared.Need.{Need}
use Rattle.needed_sets.specs.NeededSets.{globe7_needed, glob7s_needed}
use Rattle.needed_sets.specs.Sets.{globe7_set, glob7s_set}
use Rattle.season.specs.Season.{seasons_at, longitude_seasons_at}
use Rattle.expansion_parts.specs.declared.Seasons.{Seasons}
use Rattle.plan.specs.declared.ExpansionValues.{ExpansionValues}
use Rattle.expansion_values.specs.declared.RecordValues.{RecordValues}
use Rattle.expansion_values.specs.ExpansionValues.{legendre_in, quiet_of, active_of, wide_of}

-- ---- globe7: PT, PD[0] to PD[8], PS

-- c, and before PD[8] what PD[7] leaves
abbrev pub globe7_before : View → Carried → ℕ → Carried
globe7_before v c k = cond (eqb k 9) (active_of v pd_t7 c) c

abbrev pub globe7_at : Need → View → List (List Float) → Carried → ℕ → Float
globe7_at n v g c k = cond (globe7_needed n k) (wide_of v g (globe7_before v c k) (globe7_set k)) 0·0

unfoldable pub globe7_values : Need → View → List (List Float) → Carried → List Float
globe7_values n v g c = filled 11 (globe7_at n v g c) 0 (replicate 11 0·0)

-- ---- glob7s: PTL and PMA[8], which the lower thermosphere needs; PMA[0], PMA[1], PMA[2] and PMA[9], the mesosphere; PMA[3] to PMA[7], the troposphere

-- c3 is what PD[3] leaves, c8 what PD[8] leaves
abbrev pub glob7s_before : ℕ → Carried → Carried → Carried
glob7s_before k c3 c8 = cond (ltb k 5) c3 c8

abbrev pub glob7s_at : Need → View → List (List Float) → Carried → Carried → ℕ → Float
glob7s_at n v g c3 c8 k = cond (glob7s_needed n k) (glob7s_from v (glob7s_set k) g (glob7s_before k c3 c8)) 0·0

unfoldable pub glob7s_values : Need → View → List (List Float) → Carried → Carried → List Float
glob7s_values n v g c3 c8 = filled 14 (glob7s_at n v g c3 c8) 0 (replicate 14 0·0)

-- ---- the same with the cosines of the day out of a season, whatever it holds

-- globe7 over a set; d are its cosines of the day
unfoldable pub wide_given : View → List (List Float) → Carried → List Float → Seasons → Float
wide_given v g c p d = globe7_given v p g (active_of v p c) d

abbrev pub globe7_at_given : Need → View → List (List Float) → Carried → List Float → ℕ → Float
globe7_at_given n v g c s k = cond (globe7_needed n k) (wide_given v g (globe7_before v c k) (globe7_set k) (seasons_at s (4 * k))) 0·0

unfoldable pub globe7_values_given : Need → View → List (List Float) → Carried → List Float → List Float
globe7_values_given n v g c s = filled 11 (globe7_at_given n v g c s) 0 (replicate 11 0·0)

abbrev pub glob7s_at_given : Need → View → List (List Float) → Carried → Carried → List Float → ℕ → Float
glob7s_at_given n v g c3 c8 s k =
    cond (glob7s_needed n k) (glob7s_from_given v (glob7s_set k) g (glob7s_before k c3 c8) (seasons_at s (44 + 4 * k)) (longitude_seasons_at s (100 + 4 * k))) 0·0

unfoldable pub glob7s_values_given : Need → View → List (List Float) → Carried → Carried → List Float → List Float
glob7s_values_given n v g c3 c8 s = filled 14 (glob7s_at_given n v g c3 c8 s) 0 (replicate 14 0·0)

-- the values by name, x those of globe7's sets and y those of glob7s'
abbrev pub named_values : List Float → List Float → ExpansionValues
named_values x y =
    record {
      pt = x ‼ 0;
      ps = x ‼ 10;
      pd0 = x ‼ 1;
      pd1 = x ‼ 2;
      pd2 = x ‼ 3;
      pd3 = x ‼ 4;
      pd4 = x ‼ 5;
      pd5 = x ‼ 6;
      pd6 = x ‼ 7;
      pd7 = x ‼ 8;
      pd8 = x ‼ 9;
      ptl0 = y ‼ 0;
      ptl1 = y ‼ 1;
      ptl2 = y ‼ 2;
      ptl3 = y ‼ 3;
      pma0 = y ‼ 5;
      pma1 = y ‼ 6;
      pma2 = y ‼ 7;
      pma3 = y ‼ 9;
      pma4 = y ‼ 10;
      pma5 = y ‼ 11;
      pma6 = y ‼ 12;
      pma7 = y ‼ 13;
      pma8 = y ‼ 4;
      pma9 = y ‼ 8;
    }

unfoldable pub expansion_values_given : View → Need → List Float → ExpansionValues
expansion_values_given v n s =
    let g = legendre_in v in
    let c = quiet_of v in
    named_values (globe7_values_given n v g c s) (glob7s_values_given n v g (active_of v pd_t3 c) (active_of v pd_t8 (active_of v pd_t7 c)) s)

unfoldable pub record_values_given : List ℤ → Input → Need → List Float → RecordValues
record_values_given w n a s = let v = view_of w n in record { sw = v.sw; slat = v.slat; cos_pt = s ‼ 2; values = expansion_values_given v a s }
